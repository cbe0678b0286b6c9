-- What an event at a switch is to the network.
use Rattle.std.proofs.Common.{◌≡◌, ℕ, ◌<◌, Bool, true, false, cond, List, length, set, get_or, Some, Ok, refl, sym, ap, ◌∙◌, subst, inl, inr, arith, true≢false}
use Rattle.std.specs.Prelude.{slice_get, is_some, unwrap_or, Option, None, nat_lt, Result, Err, MatchResult}
use Rattle.std.specs.Result.{result_and}
use Rattle.std.specs.List.{position, position_or_len}
use Rattle.std.proofs.lemmas.Bool.{eqb-true, eq-eqb, ltb-false}
use Rattle.std.proofs.lemmas.List.Quantifiers.{position-Some}
use Rattle.std.proofs.lemmas.List.Sums.{fails_before_first}
use Rattle.std.proofs.lemmas.Option.{same_Some, slice_get-get_or, get_or_from_slice_get}
use Rattle.link_timers.specs.declared.role.Role.{Role}
use Rattle.link_timers.specs.declared.timers.TimerId.{TimerId}
use Rattle.frame_lines.specs.declared.line.Direction.{Direction}
use Rattle.frame_lines.specs.declared.line.Direction.TheVariants.{FromDte, FromDce}
use Rattle.frame_lines.specs.Lines.{Flights, LineService, flying, without_first}
use Rattle.net_events.specs.OneLine.{direction_to}
use Rattle.net_events.proofs.Users.{not_both, same_switch}
use Rattle.net_events.specs.AtSwitch.{SwitchEvent, Hears, Expires, Relinks, Restarts, HasOwnLine, switched, joins_of, switch_drained, all_handed, LinesServed}
use Rattle.net_events.specs.Network.{PlacedSwitch, NetNode, User, Switching, NetLine, Network, StandsAtLines, place_at, own_role}
use Rattle.net_events.specs.declared.answer.Answer.{Answer}
use Rattle.net_events.specs.declared.answer.Put.{Put}
use Rattle.switch_laws.specs.Turn.{AreOctets}
use Rattle.net_nodes.specs.Places.{UserStands, IsStanding, IsOwnLine, own_line_in, own_line_at, is_switch, is_switch_at}
use Rattle.net_config.specs.Plan.{is_line}
use Rattle.net_nodes.specs.Faults.{step_fault, where_there_is, stands_at}
use Rattle.net_nodes.specs.Happening.{Happens}
use Rattle.net_events.specs.declared.event.Event.TheVariants.{Deliver, Expire, Restart}
use Rattle.net_nodes.specs.Steps.{AtSwitch, relink_at, hearer}
use Rattle.net_nodes.proofs.UserNodeEvents.{relink_not_refused, relink_step}
use Rattle.node_events.specs.Switching.{HasRoom, CanPut}
use Rattle.net_nodes.specs.Switching.{CanSwitch, SwitchActed}
use Rattle.net_events.proofs.Lists.{within}
use Rattle.node_events.proofs.Switching.{heard_lines, expired_lines, relinked_lines, restarted_lines}

-- what never fails is answered
pub answered : {D E A : Type 0} {P : Type 0} (r : Result D E) (a : A) (Q : Result A E → Type 0) → MatchResult r (λ _. P) (λ _. ⊥) → (P → Q (Ok a)) → Q (result_and r (Ok a))
answered (Ok d) a Q w q = q w
answered (Err e) a Q w q = absurd w

pub then_so : {D E : Type 0} {P Q : Type 0} (r : Result D E) → (P → Q) → MatchResult r (λ _. P) (λ _. ⊥) → MatchResult r (λ _. Q) (λ _. ⊥)
then_so (Ok d) q w = q w
then_so (Err e) q w = absurd w

-- ---- in the network

-- the switch of a place can be served
pub can_switch : (place : ℕ) (s : Network) (n : PlacedSwitch) (lines : List NetLine) (puts : List Put) (places : ℕ) → IsStanding s → slice_get s.nodes place ≡ Some (Switching n)
    → length lines ≡ length s.lines → HasRoom (length n.switch.lines) puts places
    → CanPut n.lines n.switch.lines lines puts places
can_switch place s n lines puts places st there count room =
    let at : StandsAtLines s.lines place n = st.nodes place (Switching n) there in
    record {
      count = at.count;
      apart = at.apart;
      there = λ own line own_there. let w = at.each own line own_there in (let h = within s.lines line w.line_is w.there in omega (arith, h, count));
      room = subst (λ k. HasRoom k puts places) (sym at.count) room;
    }

-- it was: this is the event
pub at_switch : (L : LineService) (event : SwitchEvent) (place : ℕ) (n : PlacedSwitch) (s mid : Network) (a : Answer) (t : Network) → slice_get s.nodes place ≡ Some (Switching n)
    → mid.nodes ≡ s.nodes → mid.register ≡ s.register → HasOwnLine event n.switch → SwitchActed L event place n mid a t → LinesServed L event n s.lines t.lines → AtSwitch L place event s a t
at_switch L event place n s mid a t there same_nodes same_register has w lines = record {
  happened = record {
    node = n;
    node_there = there;
    has_line = has;
    nodes = w.nodes_are ∙ ap (λ xs. set xs place (Switching (record n { switch = switch_drained (switched event n.switch) }))) same_nodes;
    lines = lines;
    register = w.register_is ∙ ap (all_handed n.lines (own_role n.switch) (joins_of event n.switch)) same_register;
  };
  puts = w.puts;
  notes = w.notes;
  text = w.text;
  outcome = w.outcome;
}

-- ---- which own line it is

passes_not : (p : ℕ → Bool) (xs : List ℕ) (i x : ℕ) → position p xs ≡ None → slice_get xs i ≡ Some x → p x ≡ false
passes_not p xs i x none there =
    by (nat_lt (position_or_len p xs) (length xs)) refl none
  where
    by : (b : Bool) → nat_lt (position_or_len p xs) (length xs) ≡ b → cond b (Some (position_or_len p xs)) None ≡ None → p x ≡ false
    by true is h = absurd (cc)
    by false is h =
        let long = ltb-false (position_or_len p xs) (length xs) is in
        let less = within xs i x there in
        ap p (sym (get_or_from_slice_get xs i x x there)) ∙ fails_before_first p xs i x (omega (arith, long, less))

passes_there : (p : ℕ → Bool) (xs : List ℕ) (i : ℕ) → position p xs ≡ Some i → (x : ℕ) × (slice_get xs i ≡ Some x) × (p x ≡ true)
passes_there p xs i is =
    let found = position-Some p xs i 0 is in (get_or xs i 0, slice_get-get_or xs i 0 found.0, found.1)

pub own_line_found : (line place own : ℕ) (s : Network) → own_line_at line place s ≡ Some own
    → (n : PlacedSwitch) × (slice_get s.nodes place ≡ Some (Switching n)) × (slice_get n.lines own ≡ Some line)
own_line_found line place own s is = by (slice_get s.nodes place) refl is
  where
    by : (o : Option NetNode) → slice_get s.nodes place ≡ o → own_line_in line o ≡ Some own → (n : PlacedSwitch) × (slice_get s.nodes place ≡ Some (Switching n)) × (slice_get n.lines own ≡ Some line)
    by None there h = absurd (cc)
    by (Some (User n)) there h = absurd (cc)
    by (Some (Switching n)) there h =
        let found = passes_there (is_line line) n.lines own h in
        (n, there, found.1 ∙ ap Some (eqb-true found.0 line found.2))

-- where the node at an end of a line has it as no own line, it is a node with users
pub no_own_line : (line place : ℕ) (l : NetLine) (role : Role) (s : Network) → IsStanding s → slice_get s.lines line ≡ Some l → place ≡ place_at role l → own_line_at line place s ≡ None
    → UserStands s line l role
no_own_line line place l role s st there is none = elim (st.ends line l role there) [
  | inl e ↦ e
  | inr e ↦ absurd (true≢false (sym (eq-eqb line line refl)
      ∙ passes_not (is_line line) e.node.lines e.own line (sym (ap (own_line_in line) (ap (λ i. slice_get s.nodes i) is ∙ e.node_there)) ∙ none) e.own_line))
]

-- and where it has, it is a switch, with the role of that end
pub own_line_there : (line place own : ℕ) (l : NetLine) (role : Role) (s : Network) → IsStanding s → slice_get s.lines line ≡ Some l → place ≡ place_at role l → own_line_at line place s ≡ Some own
    → IsOwnLine line place own role s
own_line_there line place own l role s st there is found =
    let o = own_line_found line place own s found in
    elim (st.ends line l role there) [
      | inl e ↦ absurd (not_both e.node o.0 (sym e.node_there ∙ ap (λ i. slice_get s.nodes i) (sym is) ∙ o.1))
      | inr e ↦
          let same : o.0 ≡ e.node = same_switch o.0 e.node (sym o.1 ∙ ap (λ i. slice_get s.nodes i) is ∙ e.node_there) in
          let at : StandsAtLines s.lines place o.0 = st.nodes place (Switching o.0) o.1 in
          let one : own ≡ e.own = at.apart own e.own line o.2 (ap (λ (n : PlacedSwitch). slice_get n.lines e.own) same ∙ e.own_line) in
          record {
            line_is = l;
            line_there = there;
            node = o.0;
            node_there = o.1;
            own_line = o.2;
            role_is = (λ i. own_role (same i).switch (one i)) ∙ e.role_is;
          }
    ]

-- the switch has a line of its own for each line of the network
pub own_within : (place own line : ℕ) (n : PlacedSwitch) (s : Network) → IsStanding s → slice_get s.nodes place ≡ Some (Switching n) → slice_get n.lines own ≡ Some line → own < length n.switch.lines
own_within place own line n s st there own_line =
    let at : StandsAtLines s.lines place n = st.nodes place (Switching n) there in
    let h = within n.lines own line own_line in
    let count = at.count in
    omega (arith, h, count)

pub switch_found : (place : ℕ) (s : Network) → is_switch_at place s ≡ true → (n : PlacedSwitch) × (slice_get s.nodes place ≡ Some (Switching n))
switch_found place s is = by (slice_get s.nodes place) refl is
  where
    by : (o : Option NetNode) → slice_get s.nodes place ≡ o → is_switch o ≡ true → (n : PlacedSwitch) × (slice_get s.nodes place ≡ Some (Switching n))
    by None there h = absurd (cc)
    by (Some (User n)) there h = absurd (cc)
    by (Some (Switching n)) there h = (n, there)

-- ---- events

no_fault : (line place own : ℕ) (timer : TimerId) (n : PlacedSwitch) (s : Network) → slice_get s.nodes place ≡ Some (Switching n) → own_line_at line place s ≡ Some own → step_fault (Expire place line timer) s ≡ None
no_fault line place own timer n s there is =
    ap (λ o. where_there_is (stands_at line o)) there ∙ ap (λ o. where_there_is (is_some o)) (sym (ap (own_line_in line) there) ∙ is)

pub expired : (L : LineService) (place line own : ℕ) (timer : TimerId) (n : PlacedSwitch) (s : Network) (a : Answer) (t : Network) → IsStanding s → slice_get s.nodes place ≡ Some (Switching n)
    → slice_get n.lines own ≡ Some line → own_line_at line place s ≡ Some own → SwitchActed L (Expires own timer) place n s a t → Happens L (Expire place line timer) s (Ok a) t
unfolding at_switch
expired L place line own timer n s a t st there own_line is w = (
  no_fault line place own timer n s there is,
  inr (record {
    own = own;
    does = at_switch L (Expires own timer) place n s s a t there refl refl (own_within place own line n s st there own_line) w (expired_lines L own timer n s.lines t.lines w.lines_put);
    own_line = own_line;
  }),
)

pub relinked : (L : LineService) (place line own : ℕ) (role : Role) (s : Network) (a : Answer) (t : Network) → IsStanding s → (o : IsOwnLine line place own role s)
    → SwitchActed L (Relinks own) place o.node s a t → Happens L (relink_at role line) s (Ok a) t
unfolding at_switch
relinked L place line own role s a t st o w = (
  relink_not_refused role line s o.line_is o.line_there,
  relink_step L role line s a t (inr (record {
    place = place;
    there = record {
      own = own;
      does = at_switch L (Relinks own) place o.node s s a t o.node_there refl refl (own_within place own line o.node s st o.node_there o.own_line) w (relinked_lines L own o.node s.lines t.lines w.lines_put);
      own_line = o.own_line;
    };
    role_is = o.role_is;
  })),
)

pub restarted : (L : LineService) (place : ℕ) (n : PlacedSwitch) (s : Network) (a : Answer) (t : Network) → slice_get s.nodes place ≡ Some (Switching n)
    → SwitchActed L Restarts place n s a t → Happens L (Restart place) s (Ok a) t
restarted L place n s a t there w = (
  ap (λ o. where_there_is (is_some o)) there,
  inr (at_switch L Restarts place n s s a t there refl refl tt w (restarted_lines L n s.lines t.lines w.lines_put)),
)

-- and so it can be served with a frame
pub can_hear : (event : SwitchEvent) (own : ℕ) (octets : List ℕ) (place : ℕ) (s : Network) (puts : List Put) (places : ℕ) → event ≡ Hears own octets
    → CanSwitch (Hears own octets) place s puts places → CanSwitch event place s puts places
can_hear event own octets place s puts places same can = subst (λ (e : SwitchEvent). CanSwitch e place s puts places) (sym same) can

to_hearer : (d : Direction) → direction_to (hearer d) ≡ d
to_hearer FromDte = refl
to_hearer FromDce = refl

pub heard : (L : LineService) (place line own : ℕ) (d : Direction) (octets : List ℕ) (l : NetLine) (f : Flights) (s : Network) (a : Answer) (t : Network) → IsStanding s → (o : IsOwnLine line place own (hearer d) s)
    → slice_get s.lines line ≡ Some l → (L.faithful → (slice_get (flying d l.flights) 0 ≡ Some octets) × (f ≡ without_first d l.flights))
    → AreOctets octets → (event : SwitchEvent) → event ≡ Hears own octets → SwitchActed L event place o.node (record s { lines = set s.lines line (record l { flights = f }) }) a t
    → Happens L (Deliver line d) s (Ok a) t
unfolding at_switch
heard L place line own d octets l f s a t st o line_there taken are event same w =
    let n : PlacedSwitch = o.node in
    let at : StandsAtLines s.lines place n = st.nodes place (Switching n) o.node_there in
    let mid : Network = record s { lines = set s.lines line (record l { flights = f }) } in
    let acted : SwitchActed L (Hears own octets) place n mid a t = subst (λ (e : SwitchEvent). SwitchActed L e place n mid a t) same w in
    let WasTaken : Direction → Type 0 = λ x. (slice_get (flying x l.flights) 0 ≡ Some octets) × (f ≡ without_first x l.flights) in
    let here : direction_to (own_role n.switch own) ≡ d = ap direction_to o.role_is ∙ to_hearer d in (
      ap (λ o. where_there_is (is_some o)) line_there,
      inr (
        octets,
        inr (record {
          place = place;
          there = record {
            own = own;
            does = at_switch L (Hears own octets) place n s mid a t o.node_there refl refl (own_within place own line n s st o.node_there o.own_line, are) acted
                (heard_lines L own line octets n l f s.lines mid.lines t.lines at.apart o.own_line line_there refl (λ faithful. subst WasTaken (sym here) (taken faithful)) acted.lines_put);
            own_line = o.own_line;
          };
          role_is = o.role_is;
        }),
      ),
    )
