-- When an event is refused (X.25 is silent: these are the network's own, or the node's).
use Rattle.std.specs.Prelude.{ℕ, ◌≡◌, ◌==◌, ◌&&◌, not, Bool, true, false, Option, Some, None, slice_get, nat_lt}
use Rattle.std.specs.Prelude.{if◌then◌else◌, is_some}
use Rattle.net_events.specs.NodeEvents.{Calls}
use Rattle.net_events.specs.Network.{PlacedNode, NetNode, User, Switching, NetLine, Network}
use Rattle.net_events.specs.EventView.{request_event}
use Rattle.node_events.specs.Outcomes.{event_fault}
pub use Rattle.node_events.specs.Users.{refused, IsLeftToNode}
use Rattle.net_events.specs.declared.event.Event.{Event}
use Rattle.net_events.specs.declared.event.Event.TheVariants.{AtTerminal, Call, Ask, Take, Deliver, Lose, Expire}
use Rattle.net_events.specs.declared.event.Event.TheVariants.{Relink, GivesUp}
use Rattle.net_events.specs.declared.event.Event.TheVariants.{Restart}
use Rattle.net_events.specs.declared.event.StepFault.{StepFault}
use Rattle.net_events.specs.declared.event.StepFault.TheVariants.{NoSuchNode, NoSuchTerminal, NoSuchCall}
use Rattle.net_nodes.specs.Places.{is_host_at, pad_terminals, user_at}
use Rattle.net_node.specs.Node.{own_line}

-- ---- where an event is

-- the line has the channel
abbrev pub has_channel : ℕ → Option NetLine → Bool
has_channel channel (Some l) = not (channel == 0) && not (nat_lt l.channels channel)
has_channel channel None = false

abbrev pub is_channel_at : (line channel : ℕ) → Network → Bool
is_channel_at line channel s = has_channel channel (slice_get s.lines line)

-- ---- the first fault of an event, want of memory apart

-- at a node with users, if there is one
abbrev pub at_node : Option PlacedNode → (PlacedNode → Option StepFault) → Option StepFault
at_node (Some n) fault = fault n
at_node None fault = Some NoSuchNode

-- at a host: no such node, or one of another kind; else this
abbrev pub at_host : ℕ → Network → (PlacedNode → Option StepFault) → Option StepFault
at_host place s fault = if is_host_at place s then at_node (user_at place s) fault else Some NoSuchNode

-- on a channel of the node's line
abbrev pub on_channel : ℕ → Network → PlacedNode → Option StepFault → Option StepFault
on_channel channel s n fault = if is_channel_at n.line channel s then fault else Some NoSuchCall

-- at a node, or on a line
abbrev pub where_there_is : Bool → Option StepFault
where_there_is there = if there then None else Some NoSuchNode

-- the node has this line
abbrev pub has_line : (line : ℕ) → NetNode → Bool
has_line line (User n) = n.line == line
has_line line (Switching n) = is_some (own_line line (Switching n))

abbrev pub stands_at : (line : ℕ) → Option NetNode → Bool
stands_at line (Some n) = has_line line n
stands_at line None = false

-- at a terminal of a PAD that has so many
abbrev pub at_terminal : (terminal : ℕ) → Option ℕ → Option StepFault
at_terminal terminal (Some terminals) = if nat_lt terminal terminals then None else Some NoSuchTerminal
at_terminal terminal None = Some NoSuchNode

abbrev pub step_fault : Event → Network → Option StepFault
step_fault (AtTerminal node terminal event) s = at_terminal terminal (pad_terminals node s)
step_fault (Call node address user_data) s =
    at_host node s (λ n. refused (event_fault (Calls address user_data.items) n.node))
step_fault (Ask node channel request) s =
    at_host node s (λ n. on_channel channel s n (refused (event_fault (request_event channel request) n.node)))
step_fault (Take node channel) s = at_host node s (λ n. on_channel channel s n None)
step_fault (Deliver line direction) s = where_there_is (is_some (slice_get s.lines line))
step_fault (Lose line direction) s = where_there_is (is_some (slice_get s.lines line))
step_fault (Expire node line timer) s = where_there_is (stands_at line (slice_get s.nodes node))
step_fault (Relink line) s = where_there_is (is_some (slice_get s.lines line))
step_fault (GivesUp line) s = where_there_is (is_some (slice_get s.lines line))
step_fault (Restart node) s = where_there_is (is_some (slice_get s.nodes node))

-- ---- want of memory

-- whether an event takes memory where the network itself does not refuse it: all do but the loss of a frame
abbrev pub takes_memory : Event → Bool
takes_memory (Lose line direction) = false
takes_memory _ = true

-- memory may be wanting: it is looked for behind what the network itself refuses, and before the node is asked
abbrev pub MayWant : Event → Network → Type 0
MayWant e s = (takes_memory e ≡ true) × IsLeftToNode (step_fault e s)
