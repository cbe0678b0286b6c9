-- What may be asked of the node at a place about what its users have left to do.
use Rattle.std.specs.Prelude.{ℕ, Bool, false, Option, Some, None}
use Rattle.user_nodes.specs.Questions.{node_shows, node_has_to_take, node_room_to_say}
use Rattle.net_events.specs.Network.{PlacedNode}

abbrev pub shows_by : (terminal : ℕ) → Option PlacedNode → Bool
shows_by terminal None = false
shows_by terminal (Some n) = node_shows n.node terminal

abbrev pub has_to_take_by : (channel : ℕ) → Option PlacedNode → Bool
has_to_take_by channel None = false
has_to_take_by channel (Some n) = node_has_to_take n.node channel

abbrev pub room_to_say_by : (channel : ℕ) → Option PlacedNode → ℕ
room_to_say_by channel None = 0
room_to_say_by channel (Some n) = node_room_to_say n.node channel
