-- An event at a node with users has one answer, and leaves one network.
use Rattle.std.proofs.Common.{◌≡◌, ◌≢◌, ℕ, List, Some, refl, sym, ap, ◌∙◌, subst}
use Rattle.std.specs.Prelude.{slice_get}
use Rattle.std.proofs.lemmas.Option.{same_Some}
use Rattle.link_timers.specs.declared.role.Role.{Role}
use Rattle.link_timers.specs.declared.role.Role.TheVariants.{Dte, Dce}
use Rattle.user_nodes.specs.Node.{NodeState, Pad, Host, frames_of}
use Rattle.user_nodes.specs.Notes.{user_notes}
use Rattle.frame_lines.specs.Lines.{Flights, memory_service, ArePut}
use Rattle.net_events.specs.OneLine.{direction_of}
use Rattle.net_events.specs.NodeEvents.{NodeEvent, Hears, Expires, Relinks, Restarts, Calls, Asks, Refuses, Says}
use Rattle.net_events.specs.NodeEvents.{Takes, AtTerminal, LeftBy}
use Rattle.net_events.specs.Network.{PlacedNode, User, NetLine, Network, place_at, net_turn, with_turn_at}
use Rattle.net_events.specs.Network.{HappenedAt}
use Rattle.net_events.specs.declared.answer.Answer.{Answer}
use Rattle.net_events.specs.declared.answer.Outcome.{Outcome}
use Rattle.net_events.specs.declared.answer.Outcome.TheVariants.{Called}
use Rattle.net_events.proofs.Users.{same_user}
use Rattle.node_events.specs.Outcomes.{IsOutcome, CalledOn, text_of}
use Rattle.node_events.specs.Sends.{ArePutsOf}
use Rattle.net_nodes.specs.Turns.{AtEnd}
use Rattle.net_nodes.specs.Steps.{AtNode}
use Rattle.network_laws.specs.Switched.IsSwitched.{IsAny}
use Rattle.line_sim.specs.Between.{IsBetweenEvents}
use Rattle.run_laws.specs.Determined.{IsSameAnswer}
use Rattle.run_laws.proofs.Puts.{puts_once, listed_once}

left_once : (event : NodeEvent) (role : Role) (before between other : Flights) → LeftBy event role before between
    → LeftBy event role before other → between ≡ other
left_once (Hears octets) role before between other p q = p.1 ∙ sym q.1
left_once (Expires id) role before between other p q = p ∙ sym q
left_once Relinks role before between other p q = p ∙ sym q
left_once Restarts role before between other p q = p ∙ sym q
left_once (Calls address user_data) role before between other p q = p ∙ sym q
left_once (Asks channel r) role before between other p q = p ∙ sym q
left_once (Refuses channel) role before between other p q = p ∙ sym q
left_once (Says channel octets qualified delivery) role before between other p q = p ∙ sym q
left_once (Takes channel) role before between other p q = p ∙ sym q
left_once (AtTerminal terminal event) role before between other p q = p ∙ sym q

called_once : (n : NodeState) (o p : Outcome) → CalledOn n o → CalledOn n p → o ≡ p
called_once n o p x y =
    x.answered ∙ ap (λ (channel : ℕ). Called channel) (same_Some x.channel y.channel (sym x.given ∙ y.given))
    ∙ sym y.answered

outcome_once : (event : NodeEvent) (n : NodeState) (o p : Outcome) → IsOutcome event n o → IsOutcome event n p → o ≡ p
outcome_once (Hears octets) n o p x y = x ∙ sym y
outcome_once (Expires id) n o p x y = x ∙ sym y
outcome_once Relinks n o p x y = x ∙ sym y
outcome_once Restarts n o p x y = x ∙ sym y
outcome_once (Calls address user_data) n o p x y = called_once n o p x y
outcome_once (Asks channel r) n o p x y = x ∙ sym y
outcome_once (Refuses channel) n o p x y = x ∙ sym y
outcome_once (Says channel octets qualified delivery) n o p x y = x ∙ sym y
outcome_once (Takes channel) n o p x y = x ∙ sym y
outcome_once (AtTerminal terminal event) (Pad pad) o p x y = x ∙ sym y
outcome_once (AtTerminal terminal event) (Host end) o p x y = absurd x

-- ---- at an end of a line

module _ (event : NodeEvent) (line : ℕ) (role : Role) (s t u : Network)
    (h : HappenedAt memory_service event line role s t) (k : HappenedAt memory_service event line role s u) where
  same_line : h.line_is ≡ k.line_is
  same_line = same_Some h.line_is k.line_is (sym h.line_there ∙ k.line_there)

  same_node : h.node ≡ k.node
  same_node =
      same_user h.node k.node
      (sym h.node_there ∙ ap (λ (l : NetLine). slice_get s.nodes (place_at role l)) same_line ∙ k.node_there)

  same_between : h.between ≡ k.between
  same_between =
      left_once event role h.line_is.flights h.between k.between (h.left tt)
      (subst (λ (l : NetLine). LeftBy event role l.flights k.between) (sym same_line) (k.left tt))

  abbrev sent_by : PlacedNode → List (List ℕ)
  sent_by n = frames_of (net_turn event line role n s).node

  same_flights : h.flights ≡ k.flights
  same_flights =
      puts_once (sent_by h.node) (direction_of role) h.between k.between h.flights k.flights same_between (h.put tt)
      (subst (λ (n : PlacedNode). ArePut memory_service (direction_of role) (sent_by n) k.between k.flights)
      (sym same_node) (k.put tt))

  abbrev left_so : NetLine → PlacedNode → Flights → Network
  left_so l n f = with_turn_at line l (place_at role l) n (net_turn event line role n s) f s

  happened_once : t ≡ u
  happened_once = h.others ∙ (λ i. left_so (same_line i) (same_node i) (same_flights i)) ∙ sym k.others

pub at_end_once : (line : ℕ) (role : Role) (event : NodeEvent) (s t u : Network) (a b : Answer)
    → AtEnd memory_service (record { line = line; role = role }) event s a t
    → AtEnd memory_service (record { line = line; role = role }) event s b u → IsSameAnswer a b × (t ≡ u)
at_end_once line role event s t u a b p q =
    let line_is = same_line event line role s t u p.happened q.happened in
    let node = same_node event line role s t u p.happened q.happened in
    let Q : PlacedNode → Type 0 = λ n.
    ArePutsOf (direction_of role) line (frames_of (net_turn event line role n s).node) b.frames.items in
    let R : PlacedNode → Type 0 = λ n. IsOutcome event n.node b.outcome in (
      record {
        frames =
            listed_once (frames_of (net_turn event line role p.happened.node s).node) (direction_of role) line
            a.frames.items b.frames.items p.puts (subst Q (sym node) q.puts);
        notes =
            p.told ∙ (λ i. user_notes (place_at role (line_is i)) (net_turn event line role (node i) s).notes)
            ∙ sym q.told;
        text = p.text ∙ ap (λ (n : PlacedNode). text_of event n.node) node ∙ sym q.text;
        outcome =
            outcome_once event p.happened.node.node a.outcome b.outcome p.outcome (subst R (sym node) q.outcome);
      },
      happened_once event line role s t u p.happened q.happened,
    )

-- ---- at the node of a place

-- the two nodes of a line are two
apart : (s : Network) → IsAny memory_service s → (line : ℕ) (l : NetLine) → slice_get s.lines line ≡ Some l
    → l.dte ≢ l.dce
apart s n line l at = (n.network.lines line l at).apart

same_role : (role other : Role) (l : NetLine) (place : ℕ) → l.dte ≢ l.dce → place_at role l ≡ place
    → place_at other l ≡ place → role ≡ other
same_role Dte Dte l place two p q = refl
same_role Dce Dce l place two p q = refl
same_role Dte Dce l place two p q = absurd (two (p ∙ sym q))
same_role Dce Dte l place two p q = absurd (two (q ∙ sym p))

pub at_node_once : (place : ℕ) (event : NodeEvent) (s t u : Network) (a b : Answer) → IsBetweenEvents memory_service s
    → AtNode memory_service place event s a t → AtNode memory_service place event s b u → IsSameAnswer a b × (t ≡ u)
at_node_once place event s t u a b holds p q =
    let h = p.does.happened in
    let k = q.does.happened in
    let At : PlacedNode → ℕ → Type 0 = λ n i. slice_get s.nodes i ≡ Some (User n) in
    let here : At h.node place = subst (At h.node) p.own_place h.node_there in
    let there : At k.node place = subst (At k.node) q.own_place k.node_there in
    let node : h.node ≡ k.node = same_user h.node k.node (sym here ∙ there) in
    let line : p.end.line ≡ q.end.line = sym p.own_line ∙ ap (λ (n : PlacedNode). n.line) node ∙ q.own_line in
    let line_is : h.line_is ≡ k.line_is
    = same_Some h.line_is k.line_is
    (sym h.line_there ∙ ap (λ (i : ℕ). slice_get s.lines i) line ∙ k.line_there) in
    let role : p.end.role ≡ q.end.role
    = same_role p.end.role q.end.role h.line_is place (apart s holds.any p.end.line h.line_is h.line_there) p.own_place
    (ap (λ (l : NetLine). place_at q.end.role l) line_is ∙ q.own_place) in
    let there_too : AtEnd memory_service (record { line = q.end.line; role = p.end.role }) event s b u
    = subst (λ (r : Role). AtEnd memory_service (record { line = q.end.line; role = r }) event s b u) (sym role) q.does in
    at_end_once p.end.line p.end.role event s t u a b p.does
    (subst (λ (i : ℕ). AtEnd memory_service (record { line = i; role = p.end.role }) event s b u) (sym line) there_too)
