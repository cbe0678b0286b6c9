-- What may be asked of a network without changing it.
use Rattle.std.specs.Prelude.{◌≡◌, ℕ, ◌==◌, ◌≤◌, ◌&&◌, if◌then◌else◌, Bool, false, List, [], length, Option, Some, None}
use Rattle.std.specs.List.{list_all}
use Rattle.user_nodes.specs.Node.{NodeState, Pad, Host, node_confirmed}
use Rattle.user_nodes.specs.Questions.{node_has_to_take, node_room_to_say}
use Rattle.net_events.specs.Network.{PlacedNode, NetLine, Network}
use Rattle.net_nodes.specs.Places.{user_at}
use Rattle.net_events.specs.NodeEvents.{Says}
use Rattle.net_events.specs.declared.event.StepFault.{StepFault}
use Rattle.node_events.specs.Outcomes.{event_fault}
use Rattle.net_nodes.specs.Faults.{is_channel_at, at_host, on_channel, refused}
use Rattle.net_node.specs.Node.{rests}
use Rattle.net_node.specs.Questions.{shows_by}
use Rattle.x25_pad.specs.Pad.{print_text, print_taken}

-- the channel of this number, if a node with users is there, and its line has the channel
abbrev pub user_channel : (channel : ℕ) → Network → Option PlacedNode → Option ℕ
user_channel channel s None = None
user_channel channel s (Some n) = if is_channel_at n.line channel s then Some channel else None

-- the host of this place says that each packet with D = 1 was covered; of another node, and of no call, it is not so
abbrev pub confirmed_at : (channel : ℕ) → Network → Option PlacedNode → Bool
confirmed_at channel s None = false
confirmed_at channel s (Some n) = is_channel_at n.line channel s && node_confirmed n.node channel

abbrev pub net_confirmed : (node channel : ℕ) → Network → Bool
net_confirmed node channel s = confirmed_at channel s (user_at node s)

-- a terminal of the PAD of this place has anything to show
abbrev pub net_shows : (node terminal : ℕ) → Network → Bool
net_shows node terminal s = shows_by terminal (user_at node s)

-- to print there shows nothing and takes nothing
abbrev pub PrintsNothingOf : (terminal : ℕ) → NodeState → Type 0
PrintsNothingOf terminal (Pad p) = (print_text terminal p ≡ []) × (print_taken terminal p ≡ None)
PrintsNothingOf terminal (Host e) = Unit {0}

abbrev pub PrintsNothing : (node terminal : ℕ) → Network → Type 0
PrintsNothing node terminal s = (n : PlacedNode) → user_at node s ≡ Some n → PrintsNothingOf terminal n.node

-- anything waits to be taken on a channel of the host of this place
abbrev pub has_to_take_at : (channel : ℕ) → Network → Option PlacedNode → Bool
has_to_take_at channel s None = false
has_to_take_at channel s (Some n) = is_channel_at n.line channel s && node_has_to_take n.node channel

abbrev pub net_has_to_take : (node channel : ℕ) → Network → Bool
net_has_to_take node channel s = has_to_take_at channel s (user_at node s)

-- how many octets a message without Q may have now there
abbrev pub room_to_say_at : (channel : ℕ) → Network → Option PlacedNode → ℕ
room_to_say_at channel s None = 0
room_to_say_at channel s (Some n) = if is_channel_at n.line channel s then node_room_to_say n.node channel else 0

abbrev pub net_room_to_say : (node channel : ℕ) → Network → ℕ
net_room_to_say node channel s = room_to_say_at channel s (user_at node s)

-- a host says octets on a channel
abbrev pub say_fault : (node channel : ℕ) → (octets : List ℕ) → (qualified delivery : Bool) → Network → Option StepFault
say_fault node channel octets qualified delivery s =
    at_host node s (λ n. on_channel channel s n (refused (event_fault (Says channel octets qualified delivery) n.node)))

-- a message of so many octets, if there are any, is not refused
abbrev pub MaySay : (node channel room : ℕ) → Network → Type 0
MaySay node channel room s = (octets : List ℕ) (delivery : Bool) → 1 ≤ length octets → length octets ≤ room
    → say_fault node channel octets false delivery s ≡ None

-- no frame is in flight on the line
abbrev pub is_empty : NetLine → Bool
is_empty l = (length l.flights.from_dte == 0) && (length l.flights.from_dce == 0)

-- no frame is in flight on any line, and the nodes are at rest
abbrev pub net_rests : Network → Bool
net_rests s = list_all is_empty s.lines && list_all rests s.nodes
