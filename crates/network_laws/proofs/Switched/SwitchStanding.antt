-- After an event of a switch each node stands at its lines as it stood, and nothing waits at any node.
use Rattle.std.proofs.Common.{◌≡◌, ℕ, suc, ◌<◌, List, [], ◌∷◌, length, set, Option, Some, refl, sym, ap, subst, ◌∙◌, inl, inr, arith}
use Rattle.std.specs.Prelude.{◌⊎◌, Bool, true, false, if◌then◌else◌, slice_get, unwrap_or}
use Rattle.std.proofs.lemmas.Option.{same_Some, slice_get_within}
use Rattle.std.proofs.lemmas.List.{length-map}
use Rattle.link_timers.specs.declared.role.Role.{Role}
use Rattle.link_timers.specs.declared.role.Role.TheVariants.{Dce}
use Rattle.packet_end.specs.PacketEnd.{PacketEnd}
use Rattle.record_laws.proofs.Books.Basics.{get_there, number_is, get_set, set_here, set_elsewhere}
use Rattle.node_laws.specs.Quiet.{IsQuiet}
use Rattle.user_nodes.specs.Node.{NodeState, Host, is_pad}
use Rattle.frame_lines.specs.Lines.{LineService}
use Rattle.switch_lines.specs.Lines.{SwitchLine, role_on}
use Rattle.switch_lines.specs.Switch.{Switch, timer_runs, on_expiry, relink, without_joins}
use Rattle.switch_laws.specs.Steps.Happening.{Brings, RunsOut, Relinks as RelinksLine}
use Rattle.switch_laws.proofs.RolesStay.{all_roles, event_role}
use Rattle.switched_call_laws.specs.QuietSwitches.Quiet.{IsQuietSwitch}
use Rattle.switched_call_laws.proofs.QuietSwitches.Lines.{LinesStay}
use Rattle.switched_call_laws.proofs.QuietSwitches.Events.{event-stays}
use Rattle.switched_call_laws.proofs.QuietSwitches.Quieting.{frame-quiet, timer-quiet, relink-quiet, restart-quiet}
use Rattle.net_events.specs.AtSwitch.{SwitchEvent, Hears, Expires, Relinks, Restarts, switched, line_drained, switch_drained, LinesServed}
use Rattle.net_events.specs.Network.{PlacedNode, PlacedSwitch, NetNode, User, Switching, NetLine, StandsAtLines, IsAtEnd, Stands, place_at, own_role}
use Rattle.net_events.proofs.Users.{not_switch, not_both}
use Rattle.network_laws.specs.Switched.IsSwitched.{IsEndOf, EndStands, LineStands}
use Rattle.network_laws.proofs.Switched.NodesAtEnds.{same_place}
use Rattle.network_laws.proofs.Switched.OwnLines.{own_or_none}

-- ---- the switch after an event, whose frames went

abbrev pub switch_after : SwitchEvent → PlacedSwitch → PlacedSwitch
switch_after event n = record n { switch = switch_drained (switched event n.switch) }

pub routes_stay : (event : SwitchEvent) (s : Switch) → (switched event s).routes ≡ s.routes
routes_stay (Hears own octets) s = refl
routes_stay (Expires own id) s = by_running (timer_runs (slice_get s.lines own) id)
  where
    by_running : (ran : Bool) → (if ran then on_expiry own id s else s).routes ≡ s.routes
    by_running true = refl
    by_running false = refl
routes_stay (Relinks own) s = refl
routes_stay Restarts s = refl

as_many : (ls ms : List SwitchLine) → LinesStay ls ms → length ms ≡ length ls
as_many [] [] h = refl
as_many [] (m ∷ ms) h = absurd h
as_many (l ∷ ls) [] h = absurd h
as_many (l ∷ ls) (m ∷ ms) h = ap suc (as_many ls ms h.1)

pub switched_many : (event : SwitchEvent) (s : Switch) → length (switched event s).lines ≡ length s.lines
switched_many (Hears own octets) s = as_many s.lines (switched (Hears own octets) s).lines (event-stays s.routes own (Brings octets) s.lines)
switched_many (Expires own id) s = by_running (timer_runs (slice_get s.lines own) id)
  where
    by_running : (ran : Bool) → length (if ran then on_expiry own id s else s).lines ≡ length s.lines
    by_running true = as_many s.lines (on_expiry own id s).lines (event-stays s.routes own (RunsOut id) s.lines)
    by_running false = refl
switched_many (Relinks own) s = as_many s.lines (relink own s).lines (event-stays s.routes own RelinksLine s.lines)
switched_many Restarts s = length-map s.lines without_joins

pub lines_count : (event : SwitchEvent) (s : Switch) → length (switch_drained (switched event s)).lines ≡ length s.lines
lines_count event s = length-map (switched event s).lines line_drained ∙ switched_many event s

pub quiet_after : (event : SwitchEvent) (s : Switch) → IsQuietSwitch s → IsQuietSwitch (switch_drained (switched event s))
quiet_after (Hears own octets) s q = frame-quiet own octets s q
quiet_after (Expires own id) s q = timer-quiet own id s q
quiet_after (Relinks own) s q = relink-quiet own s q
quiet_after Restarts s q = restart-quiet s

-- and no event changes the role of a switch on a line
role_stays : (event : SwitchEvent) (s : Switch) (own : ℕ) → role_on (slice_get (switched event s).lines own) ≡ role_on (slice_get s.lines own)
role_stays (Hears at octets) s own = event_role at (Brings octets) own s
role_stays (Expires at id) s own = by_running (timer_runs (slice_get s.lines at) id)
  where
    by_running : (ran : Bool) → role_on (slice_get (if ran then on_expiry at id s else s).lines own) ≡ role_on (slice_get s.lines own)
    by_running true = event_role at (RunsOut id) own s
    by_running false = refl
role_stays (Relinks at) s own = event_role at RelinksLine own s
role_stays Restarts s own = all_roles without_joins (λ l. refl) own s.lines

pub own_role_stays : (event : SwitchEvent) (s : Switch) (own : ℕ) → own_role (switch_drained (switched event s)) own ≡ own_role s own
own_role_stays event s own = ap (λ (r : Option Role). unwrap_or r Dce) (all_roles line_drained (λ l. refl) own (switched event s).lines ∙ role_stays event s own)

-- ---- lines

-- a line after the event has the ends and the channels of the one before it
pub record WasLine (before : List NetLine) (line : ℕ) (l' : NetLine) : Type 0 where
  pub l : NetLine
  pub there : slice_get before line ≡ Some l
  pub dte : l'.dte ≡ l.dte
  pub dce : l'.dce ≡ l.dce
  pub channels : l'.channels ≡ l.channels

pub was_line : (L : LineService) (event : SwitchEvent) (n : PlacedSwitch) (before after : List NetLine) → LinesServed L event n before after
    → (line : ℕ) (l' : NetLine) → slice_get after line ≡ Some l' → WasLine before line l'
was_line L event n before after d line l' at = elim (own_or_none n.lines line) [
  | inl own ↦
      let v = d.own_lines own.0 line own.1 in
      let is : l' ≡ record v.line_is { flights = v.flights } = same_Some l' (record v.line_is { flights = v.flights }) (sym at ∙ v.after_there) in
      record {
        l = v.line_is;
        there = v.line_there;
        dte = ap (λ (x : NetLine). x.dte) is;
        dce = ap (λ (x : NetLine). x.dce) is;
        channels = ap (λ (x : NetLine). x.channels) is;
      }
  | inr none ↦ record { l = l'; there = sym (d.others line none) ∙ at; dte = refl; dce = refl; channels = refl }
]

pub record IsLater (after : List NetLine) (line : ℕ) (l : NetLine) : Type 0 where
  pub l' : NetLine
  pub there : slice_get after line ≡ Some l'
  pub dte : l'.dte ≡ l.dte
  pub dce : l'.dce ≡ l.dce

pub later_line : (L : LineService) (event : SwitchEvent) (n : PlacedSwitch) (before after : List NetLine) → LinesServed L event n before after
    → (line : ℕ) (l : NetLine) → slice_get before line ≡ Some l → IsLater after line l
later_line L event n before after d line l at = elim (own_or_none n.lines line) [
  | inl own ↦
      let v = d.own_lines own.0 line own.1 in
      let is : v.line_is ≡ l = same_Some v.line_is l (sym v.line_there ∙ at) in
      record {
        l' = record v.line_is { flights = v.flights };
        there = v.after_there;
        dte = ap (λ (x : NetLine). x.dte) is;
        dce = ap (λ (x : NetLine). x.dce) is;
      }
  | inr none ↦ record { l' = l; there = d.others line none ∙ at; dte = refl; dce = refl }
]

-- ---- nodes at their lines

end_still : (L : LineService) (event : SwitchEvent) (n : PlacedSwitch) (before after : List NetLine) → LinesServed L event n before after
    → (place : ℕ) (role : Role) (line : ℕ) → IsAtEnd before place role line → IsAtEnd after place role line
end_still L event n before after d place role line h =
    let w = later_line L event n before after d line h.line_is h.there in
    record { line_is = w.l'; there = w.there; at_end = same_place role h.line_is w.l' w.dte w.dce ∙ h.at_end }

pub stands_still : (L : LineService) (event : SwitchEvent) (n : PlacedSwitch) (before after : List NetLine) → LinesServed L event n before after
    → (place : ℕ) (m : NetNode) → Stands before place m → Stands after place m
stands_still L event n before after d place (User m) h =
    let w = later_line L event n before after d m.line h.line h.there in
    record {
      line = w.l';
      there = w.there;
      at_end = elim h.at_end [
        | inl e ↦ inl (w.dte ∙ e)
        | inr e ↦ inr (w.dce ∙ e)
      ];
    }
stands_still L event n before after d place (Switching m) h =
    record { count = h.count; apart = h.apart; each = λ own line there. end_still L event n before after d place (own_role m.switch own) line (h.each own line there) }

pub switch_stands : (L : LineService) (event : SwitchEvent) (n : PlacedSwitch) (before after : List NetLine) → LinesServed L event n before after
    → (place : ℕ) → StandsAtLines before place n → StandsAtLines after place (switch_after event n)
switch_stands L event n before after d place h = record {
  count = h.count ∙ sym (lines_count event n.switch);
  apart = h.apart;
  each = λ own line there.
      subst (λ (r : Role). IsAtEnd after place r line) (sym (own_role_stays event n.switch own))
      (end_still L event n before after d place (own_role n.switch own) line (h.each own line there));
}

-- ---- what the switch has at an own line

abbrev pub NoneTwice : PlacedSwitch → Type 0
NoneTwice n = (own other line : ℕ) → slice_get n.lines own ≡ Some line → slice_get n.lines other ≡ Some line → own ≡ other

pub switch_end : (nodes : List NetNode) (place : ℕ) (n : PlacedSwitch) → slice_get nodes place ≡ Some (Switching n) → NoneTwice n
    → (line at : ℕ) (x : NodeState) → at ≡ place → EndStands nodes line at x → (own : ℕ) (l : SwitchLine) → slice_get n.lines own ≡ Some line
    → slice_get n.switch.lines own ≡ Some l → x ≡ Host l.end
switch_end nodes place n there apart line at x same h own l own_is l_is =
    let node : h.node ≡ Switching n = same_Some h.node (Switching n) (sym h.there ∙ (ap (λ (k : ℕ). slice_get nodes k) same ∙ there)) in
    let end : IsEndOf (Switching n) line x = subst (λ (m : NetNode). IsEndOf m line x) node h.end in
    let one : end.0 ≡ own = apart end.0 own line end.2 own_is in
    let is : end.1 ≡ l = same_Some end.1 l (sym end.3 ∙ (ap (λ (k : ℕ). slice_get n.switch.lines k) one ∙ l_is)) in
    end.4 ∙ ap (λ (m : SwitchLine). Host m.end) is

-- and so the switch is quiet where its lines stand
pub switch_quiet : (lines : List NetLine) (nodes : List NetNode) (place : ℕ) (n : PlacedSwitch) → slice_get nodes place ≡ Some (Switching n)
    → StandsAtLines lines place n → ((line : ℕ) (l : NetLine) → slice_get lines line ≡ Some l → LineStands nodes line l) → IsQuietSwitch n.switch
switch_quiet lines nodes place n there st stand own l at =
    let within = slice_get_within n.switch.lines own l at in
    let many = st.count in
    let less : own < length n.lines = omega (arith, within, many) in
    let line = get_there n.lines own less in
    let e = st.each own line.0 line.1 in
    let role : Role = own_role n.switch own in
    let h : LineStands nodes line.0 e.line_is = stand line.0 e.line_is e.there in
    subst IsQuiet (switch_end nodes place n there st.apart line.0 (place_at role e.line_is) (h.at role) e.at_end (h.there role) own l line.1 at) (h.quiet role)

-- ---- over the event

-- a node with users was there, and stays there
pub user_was : (event : SwitchEvent) (nodes : List NetNode) (place at : ℕ) (n : PlacedSwitch) (m : PlacedNode)
    → slice_get (set nodes place (Switching (switch_after event n))) at ≡ Some (User m) → slice_get nodes at ≡ Some (User m)
user_was event nodes place at n m there = elim (get_set nodes place (Switching (switch_after event n)) at (User m) there) [
  | inl e ↦ absurd (not_switch m (switch_after event n) e.1)
  | inr e ↦ e.1
]

pub user_stays : (event : SwitchEvent) (nodes : List NetNode) (place at : ℕ) (n : PlacedSwitch) (m : PlacedNode) → slice_get nodes place ≡ Some (Switching n)
    → slice_get nodes at ≡ Some (User m) → slice_get (set nodes place (Switching (switch_after event n))) at ≡ Some (User m)
user_stays event nodes place at n m there at_m =
    set_elsewhere nodes place at (Switching (switch_after event n)) (λ e. not_both m n (sym at_m ∙ (ap (λ (k : ℕ). slice_get nodes k) e ∙ there))) ∙ at_m

-- at a line that is none of the switch's each end is as it was
pub other_end_was : (event : SwitchEvent) (nodes : List NetNode) (place : ℕ) (n : PlacedSwitch) (line at : ℕ) (x : NodeState)
    → ((own : ℕ) → slice_get n.lines own ≡ Some line → ⊥)
    → EndStands (set nodes place (Switching (switch_after event n))) line at x → EndStands nodes line at x
other_end_was event nodes place n line at x none h = elim (get_set nodes place (Switching (switch_after event n)) at h.node h.there) [
  | inl e ↦
      let end : IsEndOf (Switching (switch_after event n)) line x = subst (λ (m : NetNode). IsEndOf m line x) e.1 h.end in
      absurd (none end.0 end.2)
  | inr e ↦ record { node = h.node; there = e.1; end = h.end }
]

abbrev pub other_stood : (event : SwitchEvent) (nodes : List NetNode) (place : ℕ) (n : PlacedSwitch) (line : ℕ) (l : NetLine)
    → slice_get nodes place ≡ Some (Switching n) → ((own : ℕ) → slice_get n.lines own ≡ Some line → ⊥)
    → LineStands (set nodes place (Switching (switch_after event n))) line l → LineStands nodes line l
other_stood event nodes place n line l there none h = record {
  at = h.at;
  there = λ role. other_end_was event nodes place n line (place_at role l) (h.at role) none (h.there role);
  quiet = h.quiet;
  apart = h.apart;
  host = h.host;
  users = λ u.
      let v = h.users (u.0, user_stays event nodes place l.dce n u.0 there u.1) in
      (v.0, user_was event nodes place l.dte n v.0 v.1);
}

-- what is at an end then: the switch's own end, or what was there
pub record EndThen (event : SwitchEvent) (nodes : List NetNode) (place : ℕ) (n : PlacedSwitch) (line at : ℕ) (old : NodeState) : Type 0 where
  pub x : NodeState
  pub stands : EndStands (set nodes place (Switching (switch_after event n))) line at x
  pub quiet : IsQuiet x
  pub kind : (x ≡ old) ⊎ ((e : PacketEnd) × (x ≡ Host e))

pub end_then : (event : SwitchEvent) (nodes : List NetNode) (place : ℕ) (n : PlacedSwitch) → slice_get nodes place ≡ Some (Switching n)
    → IsQuietSwitch (switch_drained (switched event n.switch)) → (line at : ℕ) (old : NodeState) → EndStands nodes line at old → IsQuiet old
    → EndThen event nodes place n line at old
end_then event nodes place n there quiet line at old h old_quiet = elim (number_is at place) [
  | inl same ↦
      let node : h.node ≡ Switching n = same_Some h.node (Switching n) (sym h.there ∙ (ap (λ (k : ℕ). slice_get nodes k) same ∙ there)) in
      let end : IsEndOf (Switching n) line old = subst (λ (m : NetNode). IsEndOf m line old) node h.end in
      let within = slice_get_within n.switch.lines end.0 end.1 end.3 in
      let many = lines_count event n.switch in
      let less : end.0 < length (switch_drained (switched event n.switch)).lines = omega (arith, within, many) in
      let l = get_there (switch_drained (switched event n.switch)).lines end.0 less in
      record {
        x = Host l.0.end;
        stands = record {
          node = Switching (switch_after event n);
          there = ap (λ (k : ℕ). slice_get (set nodes place (Switching (switch_after event n))) k) same ∙ set_here nodes place (Switching (switch_after event n)) (Switching n) there;
          end = (end.0, l.0, end.2, l.1, refl);
        };
        quiet = quiet end.0 l.0 l.1;
        kind = inr (l.0.end, refl);
      }
  | inr ne ↦ record {
    x = old;
    stands = record {
      node = h.node;
      there = set_elsewhere nodes place at (Switching (switch_after event n)) ne ∙ h.there;
      end = h.end;
    };
    quiet = old_quiet;
    kind = inl refl;
  }
]

-- and each line stands then as it stood
pub stands_then : (event : SwitchEvent) (nodes : List NetNode) (place : ℕ) (n : PlacedSwitch) → slice_get nodes place ≡ Some (Switching n)
    → IsQuietSwitch (switch_drained (switched event n.switch)) → (line : ℕ) (l l' : NetLine) → l'.dte ≡ l.dte → l'.dce ≡ l.dce
    → LineStands nodes line l → LineStands (set nodes place (Switching (switch_after event n))) line l'
stands_then event nodes place n there quiet line l l' dte dce h = record {
  at = λ role. (ends role).x;
  there = λ role. subst (λ (k : ℕ). EndStands (set nodes place (Switching (switch_after event n))) line k (ends role).x) (sym (same_place role l l' dte dce)) (ends role).stands;
  quiet = λ role. (ends role).quiet;
  apart = λ e. h.apart (sym dte ∙ (e ∙ dce));
  host = elim (ends Dce).kind [
    | inl same ↦ ap is_pad same ∙ h.host
    | inr host ↦ ap is_pad host.1
  ];
  users = λ u.
      let v = h.users (u.0, ap (λ (k : ℕ). slice_get nodes k) (sym dce) ∙ user_was event nodes place l'.dce n u.0 u.1) in
      (v.0, user_stays event nodes place l'.dte n v.0 there (ap (λ (k : ℕ). slice_get nodes k) dte ∙ v.1));
}
  where
    ends : (role : Role) → EndThen event nodes place n line (place_at role l) (h.at role)
    ends role = end_then event nodes place n there quiet line (place_at role l) (h.at role) (h.there role) (h.quiet role)
