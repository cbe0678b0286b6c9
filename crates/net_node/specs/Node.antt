-- What a node at its place is, and what may be asked of it.
use Rattle.std.specs.Prelude.{ℕ, Bool, false, not, length, Option, Some, None}
use Rattle.std.specs.List.{position}
use Rattle.user_nodes.specs.Node.{NodeState, Pad, Host, is_pad}
use Rattle.net_config.specs.Plan.{is_line}
use Rattle.net_events.specs.Network.{PlacedNode, NetNode, User, Switching}
use Rattle.user_nodes.specs.Node.{node_rests, node_confirmed}
use Rattle.switch_lines.specs.Switch.{switch_rests}

-- the node with users at a place, if there is one
abbrev pub user_of : NetNode → Option PlacedNode
user_of (User n) = Some n
user_of (Switching n) = None

-- which of the own lines of a switch a line of the network is, if it is one
abbrev pub own_line : (line : ℕ) → NetNode → Option ℕ
own_line line (User n) = None
own_line line (Switching n) = position (is_line line) n.lines

-- a host is at this place
abbrev pub is_host : Option PlacedNode → Bool
is_host (Some n) = not (is_pad n.node)
is_host None = false

-- how many terminals the PAD at this place has, if there is one
abbrev pub terminals_of : NodeState → Option ℕ
terminals_of (Pad p) = Some (length p.ports)
terminals_of (Host e) = None

abbrev pub terminals_there : Option PlacedNode → Option ℕ
terminals_there (Some n) = terminals_of n.node
terminals_there None = None

abbrev pub confirmed_by : (channel : ℕ) → Option PlacedNode → Bool
confirmed_by channel None = false
confirmed_by channel (Some n) = node_confirmed n.node channel

abbrev pub rests : NetNode → Bool
rests (User n) = node_rests n.node
rests (Switching n) = switch_rests n.switch
