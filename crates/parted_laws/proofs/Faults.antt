-- An event is refused in a process as it is in the network.
use Rattle.std.proofs.Common.{◌≡◌, ◌≢◌, ℕ, Bool, List, set, Option, Some, None, refl, sym, ap, ◌∙◌, subst, inl, inr}
use Rattle.std.specs.Prelude.{slice_get, is_some, if◌then◌else◌}
use Rattle.record_laws.proofs.Books.Basics.{number_is, set_here, set_elsewhere}
use Rattle.frame_lines.specs.Lines.{lossless_service}
use Rattle.net_events.specs.NodeEvents.{Calls}
use Rattle.net_events.specs.EventView.{request_event}
use Rattle.net_events.specs.Network.{PlacedNode, NetNode, NetLine, Network, LostAt}
use Rattle.net_events.specs.declared.event.Event.{Event}
use Rattle.net_events.specs.declared.event.Event.TheVariants.{AtTerminal, Call, Ask, Take, Deliver, Lose, Expire}
use Rattle.net_events.specs.declared.event.Event.TheVariants.{Relink, GivesUp, Restart}
use Rattle.net_events.specs.declared.event.StepFault.{StepFault}
use Rattle.net_events.specs.declared.event.StepFault.TheVariants.{NoSuchNode, NoSuchCall}
use Rattle.node_events.specs.Outcomes.{event_fault}
use Rattle.net_nodes.specs.Faults.{refused, has_channel, at_node, at_terminal, where_there_is, stands_at, step_fault}
use Rattle.net_nodes.specs.Places.{user_in}
use Rattle.net_node.specs.Node.{is_host, terminals_there}
use Rattle.parted_laws.specs.Processes.{Processes, line_in, AreOf}
use Rattle.parted_laws.specs.Events.{IsHere, AreLost}
use Rattle.parted_laws.specs.Events.AreLost.{none_is, one_is}

-- ---- what losses leave

pub record StaysBut (s t : Network) : Type 0 where
  pub nodes : t.nodes ≡ s.nodes
  pub lines : (line : ℕ) → line_in (slice_get t.lines line) ≡ line_in (slice_get s.lines line)

one_lost : (line : ℕ) (d : _) (s t : Network) → LostAt lossless_service line d s t → StaysBut s t
one_lost line d s t w = record {
  nodes = ap (λ (n : Network). n.nodes) w.others;
  lines = λ m. ap (λ (n : Network). line_in (slice_get n.lines m)) w.others ∙ elim (number_is m line) [
    | inl e ↦
        ap (λ (i : ℕ). line_in (slice_get (set s.lines line (record w.line_is { flights = w.flights })) i)) e
        ∙ ap line_in (set_here s.lines line (record w.line_is { flights = w.flights }) w.line_is w.line_there) ∙ sym (ap line_in w.line_there)
        ∙ ap (λ (i : ℕ). line_in (slice_get s.lines i)) (sym e)
    | inr ne ↦ ap line_in (set_elsewhere s.lines line m (record w.line_is { flights = w.flights }) ne)
  ];
}

pub lost_stays : {s t : Network} → AreLost s t → StaysBut s t
lost_stays (none_is s) = record { nodes = refl; lines = λ line. refl }
lost_stays (one_is line d s mid t w rest) =
    let first = one_lost line d s mid w in
    let others = lost_stays rest in
    record { nodes = others.nodes ∙ first.nodes; lines = λ m. others.lines m ∙ first.lines m }

-- ---- the first fault

channels_in : (channel : ℕ) (found : Option NetLine) → has_channel channel (line_in found) ≡ has_channel channel found
channels_in channel None = refl
channels_in channel (Some l) = refl

some_in : (found : Option NetLine) → is_some (line_in found) ≡ is_some found
some_in None = refl
some_in (Some l) = refl

module _ (owner : ℕ → ℕ) (k : ℕ) (p : Processes) (s : Network) (are : AreOf owner p s) where
  abbrev part : Network
  part = p.parts k

  node_same : (mid : Network) → AreLost s mid → (place : ℕ) → owner place ≡ k → slice_get mid.nodes place ≡ slice_get part.nodes place
  node_same mid lost place own =
      ap (λ (ns : List NetNode). slice_get ns place) (lost_stays lost).nodes
      ∙ sym (subst (λ (j : ℕ). slice_get (p.parts j).nodes place ≡ slice_get s.nodes place) own (are.nodes place))

  line_same : (mid : Network) → AreLost s mid → (line : ℕ) → line_in (slice_get mid.lines line) ≡ line_in (slice_get part.lines line)
  line_same mid lost line = (lost_stays lost).lines line ∙ sym (are.lines k line)

  channel_same : (mid : Network) → AreLost s mid → (channel line : ℕ) → has_channel channel (slice_get mid.lines line) ≡ has_channel channel (slice_get part.lines line)
  channel_same mid lost channel line =
      sym (channels_in channel (slice_get mid.lines line)) ∙ ap (λ (o : Option NetLine). has_channel channel o) (line_same mid lost line)
      ∙ channels_in channel (slice_get part.lines line)

  there_same : (mid : Network) → AreLost s mid → (line : ℕ) → where_there_is (is_some (slice_get mid.lines line)) ≡ where_there_is (is_some (slice_get part.lines line))
  there_same mid lost line =
      ap where_there_is (sym (some_in (slice_get mid.lines line)) ∙ ap (λ (o : Option NetLine). is_some o) (line_same mid lost line) ∙ some_in (slice_get part.lines line))

  -- at a host, with a channel of its line
  abbrev asked_at : Option NetNode → (ℕ → Bool) → (PlacedNode → Option StepFault) → Option StepFault
  asked_at found has fault =
      if is_host (user_in found) then at_node (user_in found) (λ n. if has n.line then fault n else Some NoSuchCall) else Some NoSuchNode

  asked_same : (mid : Network) → AreLost s mid → (place channel : ℕ) (fault : PlacedNode → Option StepFault) → owner place ≡ k
      → asked_at (slice_get mid.nodes place) (λ line. has_channel channel (slice_get mid.lines line)) fault
      ≡ asked_at (slice_get part.nodes place) (λ line. has_channel channel (slice_get part.lines line)) fault
  asked_same mid lost place channel fault own =
      λ i. asked_at (node_same mid lost place own i) (λ line. channel_same mid lost channel line i) fault

  pub same_fault : (e : Event) → IsHere owner k e part → (mid : Network) → AreLost s mid → step_fault e mid ≡ step_fault e part
  same_fault (AtTerminal node terminal event) here mid lost = ap (λ (o : Option NetNode). at_terminal terminal (terminals_there (user_in o))) (node_same mid lost node here)
  same_fault (Call node address user_data) here mid lost =
      ap (λ (o : Option NetNode). if is_host (user_in o) then at_node (user_in o) (λ n. refused (event_fault (Calls address user_data.items) n.node)) else Some NoSuchNode)
      (node_same mid lost node here)
  same_fault (Ask node channel request) here mid lost = asked_same mid lost node channel (λ n. refused (event_fault (request_event channel request) n.node)) here
  same_fault (Take node channel) here mid lost = asked_same mid lost node channel (λ n. None) here
  same_fault (Deliver line d) here mid lost = there_same mid lost line
  same_fault (Lose line d) here mid lost = there_same mid lost line
  same_fault (Expire node line timer) here mid lost = ap (λ (o : Option NetNode). where_there_is (stands_at line o)) (node_same mid lost node here)
  same_fault (Relink line) here mid lost = there_same mid lost line
  same_fault (GivesUp line) here mid lost = there_same mid lost line
  same_fault (Restart node) here mid lost = ap (λ (o : Option NetNode). where_there_is (is_some o)) (node_same mid lost node here)
