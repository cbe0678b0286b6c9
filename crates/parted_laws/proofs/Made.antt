-- Processes that each made the network of one plan are parts of the network that is made so on lines that lose nothing.
use Rattle.std.proofs.Common.{◌≡◌, ◌≢◌, ◌≤◌, ℕ, List, [], ◌∷◌, ◌++◌, length, map, Option, Some, None, refl, sym, ap, ap₂, ◌∙◌, subst, inl, inr}
use Rattle.std.specs.Prelude.{◌⊎◌, slice_get}
use Rattle.std.proofs.lemmas.List.{length-map}
use Rattle.std.proofs.lemmas.Option.{slice_get_cases, slice_get_past}
use Rattle.lapb.specs.Machine.{Octets}
use Rattle.link_timers.specs.declared.role.Role.{Role}
use Rattle.link_timers.specs.declared.role.Role.TheVariants.{Dte, Dce}
use Rattle.call_records.specs.Register.{made_register}
use Rattle.user_nodes.specs.Node.{NodeState, frames_of}
use Rattle.frame_lines.specs.declared.line.Direction.{Direction}
use Rattle.frame_lines.specs.declared.line.Direction.TheVariants.{FromDte, FromDce}
use Rattle.frame_lines.specs.Lines.{Flights, no_flights, flying, LineService, lossless_service, ArePut}
use Rattle.net_config.specs.NetPlan.{NewLine, NetPlan, Planned, PlannedUser, PlannedSwitch, IsPlan, IsNodePlan}
use Rattle.net_events.specs.Network.{NetNode, NetLine, Network, place_at}
use Rattle.net_events.specs.Opening.{IsMade, NodeIsMade, LineIsMade, AreSent, new_at, line_plan}
use Rattle.network_laws.proofs.Mapped.{mapped, unmapped}
use Rattle.line_sim.proofs.Events.{made}
use Rattle.parted_laws.specs.Processes.{Processes, IsLeftOf, line_in, flights_at, sender, ends_of, frames_between, on_way, AreOf}
use Rattle.parted_laws.specs.Making.{planned_line, AreMade, AreMadeOne, MakingLaw}
use Rattle.parted_laws.proofs.Puts.{all_put, are_all_put, all_here, all_there}
use Rattle.parted_laws.proofs.Parts.{same_ends}

-- ---- frames that are put on an empty line

two : FromDce ≡ FromDte → ⊥
two e = cc

from_dte : (frames : List Octets) → all_put FromDte frames no_flights ≡ record { from_dte = frames; from_dce = [] }
from_dte frames = λ i. record { from_dte = all_here FromDte frames no_flights i; from_dce = all_there FromDte FromDce frames no_flights two i }

then_from_dce : (up frames : List Octets) → all_put FromDce frames (record { from_dte = up; from_dce = [] }) ≡ record { from_dte = up; from_dce = frames }
then_from_dce up frames = λ i. record {
  from_dte = all_there FromDce FromDte frames (record { from_dte = up; from_dce = [] }) (λ e. two (sym e)) i;
  from_dce = all_here FromDce frames (record { from_dte = up; from_dce = [] }) i;
}

sent_first : (dte dce : NodeState) → AreSent lossless_service dte dce (record { from_dte = frames_of dte; from_dce = frames_of dce })
sent_first dte dce = record {
  first = Dte;
  between = record { from_dte = frames_of dte; from_dce = [] };
  from_first = subst (λ (f : Flights). ArePut lossless_service FromDte (frames_of dte) no_flights f) (from_dte (frames_of dte)) (are_all_put FromDte (frames_of dte) no_flights);
  from_other =
      subst (λ (f : Flights). ArePut lossless_service FromDce (frames_of dce) (record { from_dte = frames_of dte; from_dce = [] }) f) (then_from_dce (frames_of dte) (frames_of dce))
      (are_all_put FromDce (frames_of dce) (record { from_dte = frames_of dte; from_dce = [] }));
}

-- ---- nodes

node_once : (plan : NetPlan) (s t : Network) (place : ℕ) (n : Planned) → IsNodePlan plan.lines place n → NodeIsMade plan s place n → NodeIsMade plan t place n
    → slice_get s.nodes place ≡ slice_get t.nodes place
node_once plan s t place (PlannedUser n) is p q = p is.line_is is.there ∙ sym (q is.line_is is.there)
node_once plan s t place (PlannedSwitch n) is p q = p ∙ sym q

nodes_once : (L : LineService) (plan : NetPlan) (s t : Network) → IsPlan plan → IsMade L plan s → IsMade L plan t → (place : ℕ) → slice_get s.nodes place ≡ slice_get t.nodes place
nodes_once L plan s t is p q place = elim (slice_get_cases plan.nodes place).1 [
  | inl n ↦ node_once plan s t place n.0 (is.nodes place n.0 n.2) (p.nodes place n.0 n.2) (q.nodes place n.0 n.2)
  | inr past ↦
      slice_get_past s.nodes place (subst (λ (k : ℕ). k ≤ place) (sym p.node_count) past.0)
      ∙ sym (slice_get_past t.nodes place (subst (λ (k : ℕ). k ≤ place) (sym q.node_count) past.0))
]

module _ (L : LineService) (owner : ℕ → ℕ) (plan : NetPlan) (p : Processes) (is : IsPlan plan) (m : AreMade L owner plan p) where
  -- ---- the network

  abbrev found_frames : NewLine → Role → Option Planned → List Octets
  found_frames l role None = []
  found_frames l role (Some n) = frames_of (new_at n role l.params)

  abbrev frames_at : NewLine → Role → List Octets
  frames_at l role = found_frames l role (slice_get plan.nodes (place_at role (planned_line l)))

  abbrev first_flights : NewLine → Flights
  first_flights l = record { from_dte = frames_at l Dte; from_dce = frames_at l Dce }

  abbrev line_of : NewLine → NetLine
  line_of l = record (planned_line l) { flights = first_flights l }

  abbrev one : Network
  one = record {
    nodes = (m.parts 0).network.nodes;
    lines = map line_of plan.lines;
    register = made_register (map line_plan plan.lines);
  }

  line_made : (line : ℕ) (l : NewLine) → slice_get plan.lines line ≡ Some l → LineIsMade lossless_service plan one line l
  line_made line l at = record {
    flights = first_flights l;
    there = mapped line_of plan.lines line l at;
    sent = λ f dte dce dte_there dce_there.
        subst (λ (x : Flights). AreSent lossless_service (new_at dte Dte l.params) (new_at dce Dce l.params) x)
        (λ i. record { from_dte = found_frames l Dte (sym dte_there i); from_dce = found_frames l Dce (sym dce_there i) })
        (sent_first (new_at dte Dte l.params) (new_at dce Dce l.params));
  }

  one_made : IsMade lossless_service plan one
  one_made = record {
    node_count = (m.parts 0).made.node_count;
    nodes = λ place n at. node_made place n ((m.parts 0).made.nodes place n at);
    line_count = length-map plan.lines line_of;
    lines = line_made;
    register = refl;
  }
    where
      node_made : (place : ℕ) (n : Planned) → NodeIsMade plan (m.parts 0).network place n → NodeIsMade plan one place n
      node_made place (PlannedUser n) h = h
      node_made place (PlannedSwitch n) h = h

  -- ---- its parts

  same_nodes : (place : ℕ) → slice_get (p.parts (owner place)).nodes place ≡ slice_get one.nodes place
  same_nodes place =
      ap (λ (ns : List NetNode). slice_get ns place) (m.parts (owner place)).nodes
      ∙ nodes_once L plan (m.parts (owner place)).network (m.parts 0).network is (m.parts (owner place)).made (m.parts 0).made place

  same_lines : (k line : ℕ) → line_in (slice_get (p.parts k).lines line) ≡ line_in (slice_get one.lines line)
  same_lines k line = (m.parts k).lines line ∙ elim (slice_get_cases plan.lines line).1 [
    | inl l ↦ ap line_in ((m.parts k).made.lines line l.0 l.2).there ∙ sym (ap line_in (mapped line_of plan.lines line l.0 l.2))
    | inr past ↦
        ap line_in (slice_get_past (m.parts k).network.lines line (subst (λ (i : ℕ). i ≤ line) (sym (m.parts k).made.line_count) past.0))
        ∙ sym (ap line_in (slice_get_past one.lines line (subst (λ (i : ℕ). i ≤ line) (sym (length-map plan.lines line_of)) past.0)))
  ]

  first_is : (l : NewLine) (d : Direction) → flying d (first_flights l) ≡ frames_at l (sender d)
  first_is l FromDte = refl
  first_is l FromDce = refl

  planned_at : (line : ℕ) (l : NewLine) (role : Role) → slice_get plan.lines line ≡ Some l → (n : Planned) × (slice_get plan.nodes (place_at role (planned_line l)) ≡ Some n)
  planned_at line l Dte at = let e = is.lines line l at in (e.dte, e.dte_there)
  planned_at line l Dce at = let e = is.lines line l at in (e.dce, e.dce_there)

  first_left : (line : ℕ) (l : NewLine) (d : Direction) → slice_get plan.lines line ≡ Some l → IsLeftOf (on_way owner p line (line_of l) d) (flying d (first_flights l))
  first_left line l d at =
      let n = planned_at line l (sender d) at in
      subst (λ (ends : Role → ℕ). IsLeftOf (frames_between ends (λ j. flights_at line (p.parts j)) (p.wires line) d) (flying d (first_flights l))) (sym (same_ends owner (planned_line l) (first_flights l)))
      (subst (λ (x : List Octets). IsLeftOf (on_way owner p line (planned_line l) d) x) (sym (first_is l d ∙ ap (λ (o : Option Planned). found_frames l (sender d) o) n.1))
      (m.first line l d n.0 at n.1))

  made_one : AreMadeOne owner plan p
  made_one = record {
    network = one;
    made = one_made;
    between = made lossless_service plan one is one_made;
    are = record {
      nodes = same_nodes;
      lines = same_lines;
      flights = λ line l d at.
          let u = unmapped line_of plan.lines line l at in
          subst (λ (x : NetLine). IsLeftOf (on_way owner p line x d) (flying d x.flights)) (sym u.2) (first_left line u.0 d u.1);
    };
  }

pub makes_one : (L : LineService) → MakingLaw L
makes_one L owner plan p is m = made_one L owner plan p is m
