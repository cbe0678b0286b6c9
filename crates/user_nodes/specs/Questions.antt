-- What may be asked of a node about what its users have left to do.
use Rattle.std.specs.Prelude.{ℕ, Bool, false, is_some}
use Rattle.packet_layer.specs.Layer.{front_on}
use Rattle.packet_host.specs.Saying.{room_to_say}
use Rattle.x25_pad.specs.Showing.{shows}
use Rattle.user_nodes.specs.Node.{NodeState, Pad, Host}

-- whether a terminal has anything to show: a PAD has terminals, a host has none
abbrev pub node_shows : NodeState → (terminal : ℕ) → Bool
node_shows (Pad p) terminal = shows terminal p
node_shows (Host e) terminal = false

-- whether anything waits to be taken on a channel, and how many octets may be said there now: a host's user takes and
-- says, a PAD's does not
abbrev pub node_has_to_take : NodeState → (channel : ℕ) → Bool
node_has_to_take (Pad p) channel = false
node_has_to_take (Host e) channel = is_some (front_on e.layer channel)

abbrev pub node_room_to_say : NodeState → (channel : ℕ) → ℕ
node_room_to_say (Pad p) channel = 0
node_room_to_say (Host e) channel = room_to_say e.layer channel
