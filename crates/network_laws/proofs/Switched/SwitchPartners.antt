-- After an event of a switch the other end of each own line has what is in flight on the line.
use Rattle.std.proofs.Common.{◌≡◌, ◌≢◌, ℕ, ◌<◌, Bool, ◌==◌, List, [], ◌∷◌, ◌++◌, drop, length, set, Some, refl, sym, ap, subst, ◌∙◌, inl, inr, arith}
use Rattle.std.specs.Prelude.{slice_get}
use Rattle.std.proofs.lemmas.Option.{same_Some, slice_get_within}
use Rattle.std.proofs.lemmas.Bool.{ne_eqb}
use Rattle.link_timers.specs.declared.role.Role.{Role}
use Rattle.link_timers.specs.declared.role.Role.TheVariants.{Dte, Dce}
use Rattle.link_timers.specs.Role.{other_of}
use Rattle.record_laws.proofs.Books.Basics.{get_there, get_set, number_is, eq_true, by_true, by_false}
use Rattle.lapb.specs.Machine.{Octets}
use Rattle.lapb.specs.LinkLine.{chosen}
use Rattle.packet_end.specs.PacketEnd.{PacketEnd}
use Rattle.node_laws.specs.Lines.NodeLine.{Line, other_after}
use Rattle.node_laws.specs.Lines.NodeLine as line_law
use Rattle.user_nodes.specs.Node.{NodeState, end_of}
use Rattle.frame_lines.specs.Lines.{Flights, no_flights, LineService, ArePut, flying, with_flying, without_first}
use Rattle.switch_lines.specs.Lines.{SwitchLine}
use Rattle.switch_lines.specs.Switch.{frames_on}
use Rattle.switched_call_laws.specs.SwitchRecords.Kept.{Partner, Partners, line_of_ends, line_with, sent_on}
use Rattle.switched_call_laws.specs.SwitchRecords.Kept as kept_law
use Rattle.switched_call_laws.specs.SwitchRecords.Tied.{Histories}
use Rattle.net_events.specs.OneLine.{direction_of, direction_to}
use Rattle.net_events.specs.AtSwitch.{SwitchEvent, Hears, Expires, Relinks, Restarts, switched, HasOwnLine, LeftOn, waiting_on, LinesServed}
use Rattle.net_events.specs.Network.{PlacedSwitch, NetNode, Switching, NetLine, StandsAtLines, place_at, own_role}
use Rattle.network_laws.proofs.Flying.{landed}
use Rattle.network_laws.specs.Switched.IsSwitched.{line_between, EndStands, LineStands}
use Rattle.network_laws.proofs.Switched.NodesAtEnds.{AreApart, same_end, same_place}
use Rattle.network_laws.proofs.Switched.SwitchMoving.{partners_then, MayCome}
use Rattle.network_laws.proofs.Switched.SwitchStanding.{switch_after, switched_many}

-- ---- the other end of a line of a switch

-- it is this node, with the frames in flight both ways
pub record IsPartner (p : Partner) (role : Role) (l : NetLine) (other : NodeState) : Type 0 where
  pub role_is : p.role ≡ role
  pub other_is : p.other ≡ end_of other
  pub up : p.up ≡ flying (direction_to role) l.flights
  pub down : p.down ≡ flying (direction_of role) l.flights

-- the line of a partner is that of its two ends
line_is : (a b : Line) → a.dte ≡ b.dte → a.dce ≡ b.dce → a.up ≡ b.up → a.down ≡ b.down → a ≡ b
line_is a b p q r t = λ i. record { dte = p i; dce = q i; up = r i; down = t i }

ends_so : (r : Role) (e other : PacketEnd) (up down : List Octets) (l : NetLine) (at : Role → NodeState) → other ≡ end_of (at (other_of r)) → up ≡ flying (direction_to r) l.flights → down ≡ flying (direction_of r) l.flights
    → end_of (at r) ≡ e → line_of_ends r e other up down ≡ line_between l at
ends_so Dte e other up down l at is coming going own = line_is (line_of_ends Dte e other up down) (line_between l at) (sym own) is going coming
ends_so Dce e other up down l at is coming going own = line_is (line_of_ends Dce e other up down) (line_between l at) is (sym own) coming going

pub line_of_partner : (p : Partner) (role : Role) (e : PacketEnd) (l : NetLine) (at : Role → NodeState) → IsPartner p role l (at (other_of role)) → end_of (at role) ≡ e → line_with p e ≡ line_between l at
line_of_partner p role e l at h own =
    ap (λ (r : Role). line_of_ends r e p.other p.up p.down) h.role_is ∙ ends_so role e p.other p.up p.down l at h.other_is h.up h.down own

partner_so : (r : Role) (p : Partner) (e : PacketEnd) (l : NetLine) (at : Role → NodeState) → p.role ≡ r → line_of_ends r e p.other p.up p.down ≡ line_between l at → IsPartner p r l (at (other_of r))
partner_so Dte p e l at role same = record { role_is = role; other_is = ap (λ (x : Line). x.dce) same; up = ap (λ (x : Line). x.down) same; down = ap (λ (x : Line). x.up) same }
partner_so Dce p e l at role same = record { role_is = role; other_is = ap (λ (x : Line). x.dte) same; up = ap (λ (x : Line). x.up) same; down = ap (λ (x : Line). x.down) same }

pub partner_of_line : (p : Partner) (role : Role) (e : PacketEnd) (l : NetLine) (at : Role → NodeState) → p.role ≡ role → line_with p e ≡ line_between l at → IsPartner p role l (at (other_of role))
partner_of_line p role e l at same is =
    partner_so role p e l at same (sym (ap (λ (r : Role). line_of_ends r e p.other p.up p.down) same) ∙ is)

-- ---- what leaves the line first

-- an end whose frames went
went : (e : PacketEnd) → e.line.frames ≡ [] → other_after line_law.Restarts e ≡ e
went e none = sym (ap (λ (frames : List Octets). record e { line = record e.line { frames = frames } }) none)

abbrev With : NetLine → Flights → NetLine
With l f = record l { flights = f }

still : (p : Partner) (role : Role) (l : NetLine) (between : Flights) (other : NodeState) → between ≡ l.flights → IsPartner p role l other → IsPartner p role (With l between) other
still p role l between other same h = record {
  role_is = h.role_is;
  other_is = h.other_is;
  up = h.up ∙ sym (ap (λ (f : Flights). flying (direction_to role) f) same);
  down = h.down ∙ sym (ap (λ (f : Flights). flying (direction_of role) f) same);
}

coming_less : (role : Role) (f : Flights) → flying (direction_to role) (without_first (direction_to role) f) ≡ drop 1 (flying (direction_to role) f)
coming_less Dte f = refl
coming_less Dce f = refl

going_same : (role : Role) (f : Flights) → flying (direction_of role) (without_first (direction_to role) f) ≡ flying (direction_of role) f
going_same Dte f = refl
going_same Dce f = refl

none_flying : (role : Role) → ([] ≡ flying (direction_to role) no_flights) × ([] ≡ flying (direction_of role) no_flights)
none_flying Dte = (refl, refl)
none_flying Dce = (refl, refl)

left_over : (event : SwitchEvent) (own : ℕ) (ps : Partners) (role : Role) (l : NetLine) (between : Flights) (other : NodeState) → (end_of other).line.frames ≡ []
    → IsPartner (ps own) role l other → LeftOn event own role l.flights between → IsPartner (partners_then event ps own) role (With l between) other
left_over (Hears at octets) own ps role l between other none h left = elim (number_is own at) [
  | inl same ↦
      let less = (left.0 same).1 in
      subst (λ (p : Partner). IsPartner p role (With l between) other) (sym (by_true (own == at) (kept_law.without_first (ps own)) (ps own) (eq_true own at same)))
      (record {
        role_is = h.role_is;
        other_is = h.other_is;
        up = ap (λ (fs : List Octets). drop 1 fs) h.up ∙ sym (ap (λ (f : Flights). flying (direction_to role) f) less ∙ coming_less role l.flights);
        down = h.down ∙ sym (ap (λ (f : Flights). flying (direction_of role) f) less ∙ going_same role l.flights);
      })
  | inr ne ↦
      subst (λ (p : Partner). IsPartner p role (With l between) other) (sym (by_false (own == at) (kept_law.without_first (ps own)) (ps own) (ne_eqb own at ne)))
      (still (ps own) role l between other (left.1 ne) h)
]
left_over (Expires at id) own ps role l between other none h left = still (ps own) role l between other left h
left_over (Relinks at) own ps role l between other none h left = still (ps own) role l between other left h
left_over Restarts own ps role l between other none h left = record {
  role_is = h.role_is;
  other_is = ap (λ (e : PacketEnd). other_after line_law.Restarts e) h.other_is ∙ went (end_of other) none;
  up = (none_flying role).0 ∙ sym (ap (λ (f : Flights). flying (direction_to role) f) left);
  down = (none_flying role).1 ∙ sym (ap (λ (f : Flights). flying (direction_of role) f) left);
}

-- ---- and then the frames of the switch are put

record Puts (p : Partner) (role : Role) (l : NetLine) (other : NodeState) (x : SwitchLine) : Type 0 where
  kept : List Bool
  is : IsPartner (sent_on x kept p) role l other

coming_behind : (role : Role) (frames : List Octets) (f : Flights)
    → flying (direction_to role) (with_flying (direction_of role) frames f) ≡ flying (direction_to role) f
coming_behind Dte frames f = refl
coming_behind Dce frames f = refl

going_behind : (role : Role) (frames : List Octets) (f : Flights)
    → flying (direction_of role) (with_flying (direction_of role) frames f) ≡ frames
going_behind Dte frames f = refl
going_behind Dce frames f = refl

put_behind : (L : LineService) (p : Partner) (role : Role) (l : NetLine) (other : NodeState) (x : SwitchLine) (frames : List Octets) (between flights : Flights)
    → x.end.line.frames ≡ frames → ArePut L (direction_of role) frames between flights → IsPartner p role (With l between) other → Puts p role (With l flights) other x
put_behind L p role l other x frames between flights same put h =
    let w = landed L (direction_of role) frames between flights put in
    let behind = flying (direction_of role) between ++ chosen w.kept frames in
    record {
      kept = w.kept;
      is = record {
        role_is = h.role_is;
        other_is = h.other_is;
        up = h.up ∙ sym (ap (λ (f : Flights). flying (direction_to role) f) w.is ∙ coming_behind role behind between);
        down = ap (λ (fs : List Octets). p.down ++ chosen w.kept fs) same
            ∙ (ap (λ (fs : List Octets). fs ++ chosen w.kept frames) h.down ∙ sym (ap (λ (f : Flights). flying (direction_of role) f) w.is ∙ going_behind role behind between));
      };
    }

-- ---- over the event

abbrev pub nodes_then : SwitchEvent → (place : ℕ) → PlacedSwitch → List NetNode → List NetNode
nodes_then event place n nodes = set nodes place (Switching (switch_after event n))

-- what stands at another place is as it was
pub end_was : (event : SwitchEvent) (place : ℕ) (n : PlacedSwitch) (nodes : List NetNode) (line at : ℕ) (x : NodeState) → at ≢ place → EndStands (nodes_then event place n nodes) line at x → EndStands nodes line at x
end_was event place n nodes line at x ne h = elim (get_set nodes place (Switching (switch_after event n)) at h.node h.there) [
  | inl e ↦ absurd (ne e.0)
  | inr e ↦ record { node = h.node; there = e.1; end = h.end }
]

-- the switch is at one end of its line, so it is not at the other one
not_both_ends : (role : Role) (l : NetLine) → l.dte ≢ l.dce → (place : ℕ) → place_at role l ≡ place → place_at (other_of role) l ≢ place
not_both_ends Dte l apart place at other = apart (at ∙ sym other)
not_both_ends Dce l apart place at other = apart (other ∙ sym at)

-- whatever stands at the other end of the line then, the partner is as it has to be
abbrev pub Fits : (nodes : List NetNode) → (lines : List NetLine) → PlacedSwitch → (own : ℕ) → Partner → Type 0
Fits nodes lines n own p = (line : ℕ) (l : NetLine) (h : LineStands nodes line l) → slice_get n.lines own ≡ Some line → slice_get lines line ≡ Some l
    → IsPartner p (own_role n.switch own) l (h.at (other_of (own_role n.switch own)))

module _ (L : LineService) (event : SwitchEvent) (nodes : List NetNode) (place : ℕ) (n : PlacedSwitch) (before after : List NetLine) (f : L.faithful) (apart : AreApart nodes)
    (st : StandsAtLines before place n) (stand : (line : ℕ) (l : NetLine) → slice_get before line ≡ Some l → LineStands nodes line l) (served : LinesServed L event n before after) where
  -- the other end of an own line is the same node
  pub other_same : (own line : ℕ) (l l' : NetLine) (h : LineStands nodes line l) (g : LineStands (nodes_then event place n nodes) line l') → slice_get n.lines own ≡ Some line → slice_get before line ≡ Some l
      → l'.dte ≡ l.dte → l'.dce ≡ l.dce → g.at (other_of (own_role n.switch own)) ≡ h.at (other_of (own_role n.switch own))
  other_same own line l l' h g own_is at dte dce =
      let role : Role = own_role n.switch own in
      let e = st.each own line own_is in
      let here : place_at role l ≡ place = ap (λ (v : NetLine). place_at role v) (same_Some l e.line_is (sym at ∙ e.there)) ∙ e.at_end in
      let other = other_of role in
      let same : place_at other l' ≡ place_at other l = same_place other l l' dte dce in
      same_end nodes line (place_at other l) (g.at other) (h.at other) apart
      (end_was event place n nodes line (place_at other l) (g.at other) (not_both_ends role l h.apart place here)
      (subst (λ (k : ℕ). EndStands (nodes_then event place n nodes) line k (g.at other)) same (g.there other)))
      (h.there other)

  -- what is known of the other ends before it
  abbrev pub ArePartners : Partners → Type 0
  ArePartners ps = (own line : ℕ) (l : NetLine) → slice_get n.lines own ≡ Some line → slice_get before line ≡ Some l
      → (h : LineStands nodes line l) → IsPartner (ps own) (own_role n.switch own) l (h.at (other_of (own_role n.switch own)))

  -- of each line some of its frames are kept
  pub picked : (ps : Partners) → ArePartners ps → (own : ℕ) (x : SwitchLine) → slice_get (switched event n.switch).lines own ≡ Some x
      → (kept : List Bool) × Fits (nodes_then event place n nodes) after n own (sent_on x kept (partners_then event ps own))
  picked ps partners own x at =
      let within = slice_get_within (switched event n.switch).lines own x at in
      let many = switched_many event n.switch in
      let count = st.count in
      let less : own < length n.lines = omega (arith, within, many, count) in
      let line = get_there n.lines own less in
      let role : Role = own_role n.switch own in
      let v = served.own_lines own line.0 line.1 in
      let h : LineStands nodes line.0 v.line_is = stand line.0 v.line_is v.line_there in
      let other : NodeState = h.at (other_of role) in
      let p = left_over event own ps role v.line_is v.between other (h.quiet (other_of role)).node.sent (partners own line.0 v.line_is line.1 v.line_there h) (v.left f) in
      let r = put_behind L (partners_then event ps own) role v.line_is other x (waiting_on own (switched event n.switch)) v.between v.flights
      (sym (ap frames_on at)) (v.put f) p in (
        r.kept,
        λ k l g own_is l_is.
            let same : k ≡ line.0 = same_Some k line.0 (sym own_is ∙ line.1) in
            let l_same : l ≡ record v.line_is { flights = v.flights } = same_Some l (record v.line_is { flights = v.flights }) (sym l_is ∙ ap (λ (i : ℕ). slice_get after i) same ∙ v.after_there) in
            let there : LineStands (nodes_then event place n nodes) line.0 l = subst (λ (i : ℕ). LineStands (nodes_then event place n nodes) i l) same g in
            let ends : g.at (other_of role) ≡ other =
            other_same own line.0 v.line_is l h there line.1 v.line_there (ap (λ (y : NetLine). y.dte) l_same) (ap (λ (y : NetLine). y.dce) l_same) in
            subst (λ (y : NetLine). IsPartner (sent_on x r.kept (partners_then event ps own)) role y (g.at (other_of role))) (sym l_same)
            (subst (λ (z : NodeState). IsPartner (sent_on x r.kept (partners_then event ps own)) role (record v.line_is { flights = v.flights }) z) (sym ends) r.is),
      )

-- ---- a frame that arrives is the first one on the way

first_of : (l : List Octets) (x : Octets) → slice_get l 0 ≡ Some x → l ≡ x ∷ drop 1 l
first_of [] x e = absurd (cc)
first_of (y ∷ ys) x e = ap (λ (z : Octets). z ∷ ys) (same_Some y x e)

pub may_come : (L : LineService) (event : SwitchEvent) (nodes : List NetNode) (place : ℕ) (n : PlacedSwitch) (before after : List NetLine) (h : Histories) → L.faithful
    → StandsAtLines before place n → ((line : ℕ) (l : NetLine) → slice_get before line ≡ Some l → LineStands nodes line l) → HasOwnLine event n.switch → LinesServed L event n before after
    → ((own line : ℕ) (l : NetLine) → slice_get n.lines own ≡ Some line → slice_get before line ≡ Some l → (g : LineStands nodes line l)
    → IsPartner (h.partners own) (own_role n.switch own) l (g.at (other_of (own_role n.switch own))))
    → MayCome n.lines event h
may_come L (Hears own octets) nodes place n before after h f st stand has served partners =
    let less = has.0 in
    let count = st.count in
    let line = get_there n.lines own (omega (arith, less, count)) in
    let v = served.own_lines own line.0 line.1 in
    let role : Role = own_role n.switch own in
    let first = ((v.left f).0 refl).0 in
    let p = partners own line.0 v.line_is line.1 v.line_there (stand line.0 v.line_is v.line_there) in
    (has.1, (drop 1 (flying (direction_to role) v.line_is.flights), p.up ∙ first_of (flying (direction_to role) v.line_is.flights) octets first))
may_come L (Expires own id) nodes place n before after h f st stand has served partners = tt
may_come L (Relinks own) nodes place n before after h f st stand has served partners = tt
may_come L Restarts nodes place n before after h f st stand has served partners = λ own less.
    let line = get_there n.lines own less in
    let v = served.own_lines own line.0 line.1 in
    let there : LineStands nodes line.0 v.line_is = stand line.0 v.line_is v.line_there in
    let other = there.at (other_of (own_role n.switch own)) in
    let p = partners own line.0 v.line_is line.1 v.line_there there in
    ap (λ (e : PacketEnd). other_after line_law.Restarts e) p.other_is ∙ (went (end_of other) (there.quiet (other_of (own_role n.switch own))).node.sent ∙ sym p.other_is)
