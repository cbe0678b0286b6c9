-- By a plan a network is made in one way only.
use Rattle.std.proofs.Common.{◌≡◌, ℕ, ◌≤◌, List, [], Some, refl, sym, ◌∙◌, subst, inl, inr}
use Rattle.std.specs.Prelude.{slice_get}
use Rattle.std.proofs.lemmas.Option.{slice_get_cases, slice_get_past}
use Rattle.link_timers.specs.declared.role.Role.{Role}
use Rattle.link_timers.specs.declared.role.Role.TheVariants.{Dte, Dce}
use Rattle.link_timers.specs.Role.{other_of}
use Rattle.frame_lines.specs.declared.line.Direction.{Direction}
use Rattle.frame_lines.specs.declared.line.Direction.TheVariants.{FromDte, FromDce}
use Rattle.frame_lines.specs.Lines.{Flights, no_flights, flying, memory_service, ArePut}
use Rattle.user_nodes.specs.Node.{NodeState, frames_of}
use Rattle.net_events.specs.Network.{Network}
use Rattle.net_events.specs.OneLine.{direction_of}
use Rattle.net_config.specs.NetPlan.{Planned, PlannedUser, PlannedSwitch, NewLine, NetPlan, IsPlan}
use Rattle.net_config.specs.NetPlan.{IsNodePlan}
use Rattle.net_events.specs.Opening.{NodeIsMade, LineIsMade, AreSent, IsMade, new_at, end_of_two}
use Rattle.run_laws.specs.Determined.{MakingLaw}
use Rattle.run_laws.proofs.Puts.{puts_alike, dte_stays, dce_stays}
use Rattle.run_laws.proofs.Switches.{same_lists}

-- ---- lines

-- what flies in a direction was put where nothing flew in it
record IsFirst (d : Direction) (frames flown : List (List ℕ)) : Type 0 where
  old : Flights
  new : Flights
  none : flying d old ≡ []
  put : ArePut memory_service d frames old new
  is : flown ≡ flying d new

first_once : (d : Direction) (frames flown other : List (List ℕ)) → IsFirst d frames flown → IsFirst d frames other → flown ≡ other
first_once d frames flown other p q = p.is ∙ puts_alike frames d p.old p.new q.old q.new (p.none ∙ sym q.none) p.put q.put ∙ sym q.is

-- whichever end puts first
record AreFirst (dte dce : NodeState) (f : Flights) : Type 0 where
  up : IsFirst FromDte (frames_of dte) f.from_dte
  down : IsFirst FromDce (frames_of dce) f.from_dce

are_first : (first : Role) (dte dce : NodeState) (between f : Flights)
    → ArePut memory_service (direction_of first) (frames_of (end_of_two first dte dce)) no_flights between
    → ArePut memory_service (direction_of (other_of first)) (frames_of (end_of_two (other_of first) dte dce)) between f
    → AreFirst dte dce f
are_first Dte dte dce between f p q = record {
  up = record { old = no_flights; new = between; none = refl; put = p; is = dte_stays (frames_of dce) between f q };
  down = record { old = between; new = f; none = dce_stays (frames_of dte) no_flights between p; put = q; is = refl };
}
are_first Dce dte dce between f p q = record {
  up = record { old = between; new = f; none = dte_stays (frames_of dce) no_flights between p; put = q; is = refl };
  down = record { old = no_flights; new = between; none = refl; put = p; is = dce_stays (frames_of dte) between f q };
}

sent_once : (dte dce : NodeState) (f g : Flights) → AreSent memory_service dte dce f → AreSent memory_service dte dce g
    → f ≡ g
sent_once dte dce f g p q =
    let a = are_first p.first dte dce p.between f p.from_first p.from_other in
    let b = are_first q.first dte dce q.between g q.from_first q.from_other in
    let up = first_once FromDte (frames_of dte) f.from_dte g.from_dte a.up b.up in
    let down = first_once FromDce (frames_of dce) f.from_dce g.from_dce a.down b.down in
    λ i. record { from_dte = up i; from_dce = down i }

line_once : (plan : NetPlan) (s t : Network) (line : ℕ) (l : NewLine) → IsPlan plan → slice_get plan.lines line ≡ Some l
    → LineIsMade memory_service plan s line l → LineIsMade memory_service plan t line l
    → slice_get s.lines line ≡ slice_get t.lines line
line_once plan s t line l is at p q =
    let e = is.lines line l at in
    let flights : p.flights ≡ q.flights
    = sent_once (new_at e.dte Dte l.params) (new_at e.dce Dce l.params) p.flights q.flights
    (p.sent tt e.dte e.dce e.dte_there e.dce_there) (q.sent tt e.dte e.dce e.dte_there e.dce_there) in
    p.there
    ∙ (λ i. Some (record { dte = l.dte; dce = l.dce; channels = l.params.channels; flights = flights i }))
    ∙ sym q.there

-- ---- nodes

node_once : (plan : NetPlan) (s t : Network) (place : ℕ) (n : Planned) → IsNodePlan plan.lines place n
    → NodeIsMade plan s place n → NodeIsMade plan t place n → slice_get s.nodes place ≡ slice_get t.nodes place
node_once plan s t place (PlannedUser n) is p q = p is.line_is is.there ∙ sym (q is.line_is is.there)
node_once plan s t place (PlannedSwitch n) is p q = p ∙ sym q

-- ---- the network

made_once : (plan : NetPlan) (s t : Network) → IsPlan plan → IsMade memory_service plan s
    → IsMade memory_service plan t → s ≡ t
made_once plan s t is p q = λ i. record { nodes = nodes i; lines = lines i; register = (p.register ∙ sym q.register) i }
  where
    node_at : (place : ℕ) → slice_get s.nodes place ≡ slice_get t.nodes place
    node_at place = elim (slice_get_cases plan.nodes place).1 [
      | inl n ↦ node_once plan s t place n.0 (is.nodes place n.0 n.2) (p.nodes place n.0 n.2) (q.nodes place n.0 n.2)
      | inr past ↦
          slice_get_past s.nodes place (subst (λ (k : ℕ). k ≤ place) (sym p.node_count) past.0)
          ∙ sym (slice_get_past t.nodes place (subst (λ (k : ℕ). k ≤ place) (sym q.node_count) past.0))
    ]

    line_at : (line : ℕ) → slice_get s.lines line ≡ slice_get t.lines line
    line_at line = elim (slice_get_cases plan.lines line).1 [
      | inl l ↦ line_once plan s t line l.0 is l.2 (p.lines line l.0 l.2) (q.lines line l.0 l.2)
      | inr past ↦
          slice_get_past s.lines line (subst (λ (k : ℕ). k ≤ line) (sym p.line_count) past.0)
          ∙ sym (slice_get_past t.lines line (subst (λ (k : ℕ). k ≤ line) (sym q.line_count) past.0))
    ]

    nodes : s.nodes ≡ t.nodes
    nodes = same_lists s.nodes t.nodes node_at

    lines : s.lines ≡ t.lines
    lines = same_lists s.lines t.lines line_at

pub making_once : MakingLaw
making_once config s t p q = made_once _ s t p.planned p.made q.made
