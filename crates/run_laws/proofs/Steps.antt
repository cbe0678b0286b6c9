-- An event at a network has one answer, and leaves one network.
use Rattle.std.proofs.Common.{◌≡◌, ℕ, List, set, Some, refl, sym, ap, ◌∙◌, subst, inl, inr}
use Rattle.std.specs.Prelude.{slice_get}
use Rattle.std.proofs.lemmas.Option.{same_Some, none-some}
use Rattle.link_timers.specs.declared.role.Role.{Role}
use Rattle.link_timers.specs.declared.role.Role.TheVariants.{Dte, Dce}
use Rattle.link_timers.specs.declared.timers.TimerId.{TimerId}
use Rattle.frame_lines.specs.declared.line.Direction.{Direction}
use Rattle.frame_lines.specs.declared.line.Direction.TheVariants.{FromDte, FromDce}
use Rattle.frame_lines.specs.Lines.{memory_service, flying, without_first}
use Rattle.net_events.specs.NodeEvents.{NodeEvent, Hears, Expires, Relinks, Restarts, Calls, Takes}
use Rattle.net_events.specs.NodeEvents as node_event
use Rattle.net_events.specs.AtSwitch as switch_event
use Rattle.net_events.specs.OneLine.{direction_to}
use Rattle.net_events.specs.Network.{User, NetLine, Network, LostAt}
use Rattle.net_events.specs.EventView.{request_event}
use Rattle.net_events.specs.declared.answer.Answer.{Answer}
use Rattle.net_events.specs.declared.answer.Outcome.{Outcome}
use Rattle.net_events.specs.declared.event.Event.TheVariants.{AtTerminal, Call, Ask, Take, Deliver, Lose, Expire}
use Rattle.net_events.specs.declared.event.Event.TheVariants.{Relink, GivesUp, Restart}
use Rattle.net_events.proofs.Users.{not_both}
use Rattle.net_nodes.specs.Steps.{AtNode, LoseStep, EmptyDelivery, IsHeard}
use Rattle.net_nodes.specs.Steps.{DeliverStep, ExpireStep, RelinkStep, RestartStep, hearer}
use Rattle.line_sim.specs.Between.{IsBetweenEvents}
use Rattle.run_laws.specs.Determined.{IsSameAnswer, StepLaw}
use Rattle.run_laws.proofs.Ends.{at_end_once, at_node_once}
use Rattle.run_laws.proofs.Switches.{at_switch_once, on_line_once, at_switch_end_once, not_both_there}

-- ---- frames in flight

lost_once : (line : ℕ) (d : Direction) (s t u : Network) → LostAt memory_service line d s t
    → LostAt memory_service line d s u → t ≡ u
lost_once line d s t u p q =
    let line_is : p.line_is ≡ q.line_is = same_Some p.line_is q.line_is (sym p.line_there ∙ q.line_there) in
    let flights : p.flights ≡ q.flights
    = p.rest tt ∙ ap (λ (l : NetLine). without_first d l.flights) line_is ∙ sym (q.rest tt) in
    p.others ∙ (λ i. record s { lines = set s.lines line (record (line_is i) { flights = flights i }) }) ∙ sym q.others

lose_once : (line : ℕ) (d : Direction) (o : Outcome) (s t u : Network) (a b : Answer)
    → LoseStep memory_service line d o s a t → LoseStep memory_service line d o s b u → IsSameAnswer a b × (t ≡ u)
lose_once line d o s t u a b p q = (
  record {
    frames = p.frames ∙ sym q.frames;
    notes = p.notes ∙ sym q.notes;
    text = p.text ∙ sym q.text;
    outcome = p.answered ∙ sym q.answered;
  },
  lost_once line d s t u p.lost q.lost,
)

to_hearer : (d : Direction) → direction_to (hearer d) ≡ d
to_hearer FromDte = refl
to_hearer FromDce = refl

-- the frame is the first one in flight in this direction
record IsFirst (line : ℕ) (d : Direction) (octets : List ℕ) (s : Network) : Type 0 where
  line_is : NetLine
  line_there : slice_get s.lines line ≡ Some line_is
  first : slice_get (flying d line_is.flights) 0 ≡ Some octets

heard_first : (line : ℕ) (d : Direction) (octets : List ℕ) (s : Network) (a : Answer) (t : Network)
    → IsHeard memory_service line d octets s a t → IsFirst line d octets s
heard_first line d octets s a t (inl p) =
    let h = p.happened in
    record {
      line_is = h.line_is;
      line_there = h.line_there;
      first =
          ap (λ (e : Direction). slice_get (flying e h.line_is.flights) 0) (sym (to_hearer d)) ∙ (h.left tt).0;
    }
heard_first line d octets s a t (inr p) =
    let h = p.there.does.happened in
    let x = h.lines.own_lines p.there.own line p.there.own_line in
    record {
      line_is = x.line_is;
      line_there = x.line_there;
      first =
          ap (λ (e : Direction). slice_get (flying e x.line_is.flights) 0)
          (sym (ap (λ (r : Role). direction_to r) p.role_is ∙ to_hearer d)) ∙ ((x.left tt).0 refl).0;
    }

first_once : (line : ℕ) (d : Direction) (octets other : List ℕ) (s : Network) → IsFirst line d octets s
    → IsFirst line d other s → octets ≡ other
first_once line d octets other s p q =
    let line_is : p.line_is ≡ q.line_is = same_Some p.line_is q.line_is (sym p.line_there ∙ q.line_there) in
    same_Some octets other
    (sym p.first ∙ ap (λ (l : NetLine). slice_get (flying d l.flights) 0) line_is ∙ q.first)

not_empty : (line : ℕ) (d : Direction) (octets : List ℕ) (s : Network) (a : Answer) (t : Network)
    → EmptyDelivery memory_service line d s a t → IsFirst line d octets s → ⊥
not_empty line d octets s a t p q =
    let l = p.nothing.lost in
    let line_is : l.line_is ≡ q.line_is = same_Some l.line_is q.line_is (sym l.line_there ∙ q.line_there) in
    none-some octets
    (sym (p.none tt) ∙ ap (λ (x : NetLine). slice_get (flying d x.flights) 0) line_is ∙ q.first)

-- ---- deliveries

heard_once : (line : ℕ) (d : Direction) (octets : List ℕ) (s t u : Network) (a b : Answer)
    → IsBetweenEvents memory_service s → IsHeard memory_service line d octets s a t
    → IsHeard memory_service line d octets s b u → IsSameAnswer a b × (t ≡ u)
heard_once line d octets s t u a b holds (inl p) (inl q) =
    at_end_once line (hearer d) (Hears octets) s t u a b p q
heard_once line d octets s t u a b holds (inl p) (inr q) =
    absurd (not_both_there line (hearer d) (Hears octets) (λ own. switch_event.Hears own octets) s t u a b holds p q)
heard_once line d octets s t u a b holds (inr p) (inl q) =
    absurd (not_both_there line (hearer d) (Hears octets) (λ own. switch_event.Hears own octets) s u t b a holds q p)
heard_once line d octets s t u a b holds (inr p) (inr q) =
    at_switch_end_once line (hearer d) (λ own. switch_event.Hears own octets) s t u a b holds p q

delivered_once : (line : ℕ) (d : Direction) (s t u : Network) (a b : Answer) → IsBetweenEvents memory_service s
    → DeliverStep memory_service line d s a t → DeliverStep memory_service line d s b u → IsSameAnswer a b × (t ≡ u)
delivered_once line d s t u a b holds (inl p) (inl q) = lose_once line d _ s t u a b p.nothing q.nothing
delivered_once line d s t u a b holds (inl p) (inr (octets, q)) =
    absurd (not_empty line d octets s a t p (heard_first line d octets s b u q))
delivered_once line d s t u a b holds (inr (octets, p)) (inl q) =
    absurd (not_empty line d octets s b u q (heard_first line d octets s a t p))
delivered_once line d s t u a b holds (inr (octets, p)) (inr (other, q)) =
    let same : octets ≡ other
    = first_once line d octets other s (heard_first line d octets s a t p) (heard_first line d other s b u q) in
    heard_once line d octets s t u a b holds p
    (subst (λ (x : List ℕ). IsHeard memory_service line d x s b u) (sym same) q)

-- ---- at any node

-- a node with users is at the place
user_there : (place : ℕ) (event : NodeEvent) (s : Network) (a : Answer) (t : Network)
    → (p : AtNode memory_service place event s a t)
    → slice_get s.nodes place ≡ Some (User p.does.happened.node)
user_there place event s a t p =
    subst (λ (i : ℕ). slice_get s.nodes i ≡ Some (User p.does.happened.node)) p.own_place p.does.happened.node_there

expired_once : (place line : ℕ) (timer : TimerId) (s t u : Network) (a b : Answer) → IsBetweenEvents memory_service s
    → ExpireStep memory_service place line timer s a t → ExpireStep memory_service place line timer s b u
    → IsSameAnswer a b × (t ≡ u)
expired_once place line timer s t u a b holds (inl p) (inl q) = at_node_once place (Expires timer) s t u a b holds p q
expired_once place line timer s t u a b holds (inl p) (inr q) =
    absurd (not_both p.does.happened.node q.does.happened.node
    (sym (user_there place (Expires timer) s a t p) ∙ q.does.happened.node_there))
expired_once place line timer s t u a b holds (inr p) (inl q) =
    absurd (not_both q.does.happened.node p.does.happened.node
    (sym (user_there place (Expires timer) s b u q) ∙ p.does.happened.node_there))
expired_once place line timer s t u a b holds (inr p) (inr q) =
    on_line_once place line (λ own. switch_event.Expires own timer) s t u a b holds p q

restarted_once : (place : ℕ) (s t u : Network) (a b : Answer) → IsBetweenEvents memory_service s
    → RestartStep memory_service place s a t → RestartStep memory_service place s b u → IsSameAnswer a b × (t ≡ u)
restarted_once place s t u a b holds (inl p) (inl q) = at_node_once place Restarts s t u a b holds p q
restarted_once place s t u a b holds (inl p) (inr q) =
    absurd (not_both p.does.happened.node q.happened.node
    (sym (user_there place Restarts s a t p) ∙ q.happened.node_there))
restarted_once place s t u a b holds (inr p) (inl q) =
    absurd (not_both q.does.happened.node p.happened.node
    (sym (user_there place Restarts s b u q) ∙ p.happened.node_there))
restarted_once place s t u a b holds (inr p) (inr q) = at_switch_once place switch_event.Restarts s t u a b p q

-- ---- a link that is given up

relinked_once : (line : ℕ) (role : Role) (s t u : Network) (a b : Answer) → IsBetweenEvents memory_service s
    → RelinkStep memory_service line role s a t → RelinkStep memory_service line role s b u
    → IsSameAnswer a b × (t ≡ u)
relinked_once line role s t u a b holds (inl p) (inl q) = at_end_once line role Relinks s t u a b p q
relinked_once line role s t u a b holds (inl p) (inr q) =
    absurd (not_both_there line role Relinks (λ own. switch_event.Relinks own) s t u a b holds p q)
relinked_once line role s t u a b holds (inr p) (inl q) =
    absurd (not_both_there line role Relinks (λ own. switch_event.Relinks own) s u t b a holds q p)
relinked_once line role s t u a b holds (inr p) (inr q) =
    at_switch_end_once line role (λ own. switch_event.Relinks own) s t u a b holds p q

-- ---- each event

pub step_once : StepLaw
step_once (AtTerminal node terminal event) s t u a b holds p q =
    at_node_once node (node_event.AtTerminal terminal event) s t u a b holds p q
step_once (Call node address user_data) s t u a b holds p q =
    at_node_once node (Calls address user_data.items) s t u a b holds p q
step_once (Ask node channel request) s t u a b holds p q =
    at_node_once node (request_event channel request) s t u a b holds p q
step_once (Take node channel) s t u a b holds p q = at_node_once node (Takes channel) s t u a b holds p q
step_once (Deliver line direction) s t u a b holds p q = delivered_once line direction s t u a b holds p q
step_once (Lose line direction) s t u a b holds p q = lose_once line direction _ s t u a b p q
step_once (Expire node line timer) s t u a b holds p q = expired_once node line timer s t u a b holds p q
step_once (Relink line) s t u a b holds p q = relinked_once line Dte s t u a b holds p q
step_once (GivesUp line) s t u a b holds p q = relinked_once line Dce s t u a b holds p q
step_once (Restart node) s t u a b holds p q = restarted_once node s t u a b holds p q
