-- Places of the nodes of a network.
use Rattle.std.specs.Prelude.{◌≡◌, ℕ, ◌<◌, ◌⊎◌, Bool, false, length, slice_get, Option, Some, None, is_none}
use Rattle.link_timers.specs.declared.role.Role.{Role}
use Rattle.node_laws.specs.Quiet.{IsQuiet}
use Rattle.net_events.specs.Network.{PlacedNode, PlacedSwitch, NetNode, User, Switching, NetLine, Network, place_at}
use Rattle.net_events.specs.Network.{Stands, own_role}
use Rattle.net_nodes.specs.declared.nodes.LineSide.{LineSide}
use Rattle.net_node.specs.Node.{user_of, own_line, is_host, terminals_there}

-- a node with users stands at the end of a role of a line, and neither a frame nor a note waits at it
pub record UserStands (s : Network) (line : ℕ) (l : NetLine) (role : Role) : Type 0 where
  pub node : PlacedNode
  pub node_there : slice_get s.nodes (place_at role l) ≡ Some (User node)
  pub node_line : node.line ≡ line
  pub quiet : IsQuiet node.node

-- a switch stands there, and has the line as an own line with this role
pub record SwitchStands (s : Network) (line : ℕ) (l : NetLine) (role : Role) : Type 0 where
  pub node : PlacedSwitch
  pub node_there : slice_get s.nodes (place_at role l) ≡ Some (Switching node)
  pub own : ℕ
  pub own_line : slice_get node.lines own ≡ Some line
  pub role_is : own_role node.switch own ≡ role

-- what stands at the end of a role of a line
abbrev pub EndStands : Network → (line : ℕ) → NetLine → Role → Type 0
EndStands s line l role = UserStands s line l role ⊎ SwitchStands s line l role

-- each node stands at its line, or its lines, a node with users or a switch at both ends of each line, and the register
-- has all lines
pub record IsStanding (s : Network) : Type 0 where
  pub nodes : (place : ℕ) (n : NetNode) → slice_get s.nodes place ≡ Some n → Stands s.lines place n
  pub ends : (line : ℕ) (l : NetLine) (role : Role) → slice_get s.lines line ≡ Some l → EndStands s line l role
  pub registered : length s.register.lines ≡ length s.lines

-- the node with users of this place is at this end of its line
pub record IsPlaceOf (place : ℕ) (end : LineSide) (s : Network) : Type 0 where
  pub node : PlacedNode
  pub node_there : slice_get s.nodes place ≡ Some (User node)
  pub node_line : node.line ≡ end.line
  pub line : NetLine
  pub line_there : slice_get s.lines end.line ≡ Some line
  pub at_end : place_at end.role line ≡ place

abbrev pub user_in : Option NetNode → Option PlacedNode
user_in (Some n) = user_of n
user_in None = None

abbrev pub user_at : ℕ → Network → Option PlacedNode
user_at place s = user_in (slice_get s.nodes place)

abbrev pub is_switch : Option NetNode → Bool
is_switch (Some n) = is_none (user_of n)
is_switch None = false

abbrev pub is_switch_at : ℕ → Network → Bool
is_switch_at place s = is_switch (slice_get s.nodes place)

abbrev pub own_line_in : (line : ℕ) → Option NetNode → Option ℕ
own_line_in line (Some n) = own_line line n
own_line_in line None = None

abbrev pub own_line_at : (line place : ℕ) → Network → Option ℕ
own_line_at line place s = own_line_in line (slice_get s.nodes place)

-- a frame on this line can be heard by a node with users
pub record HearsAt (line : ℕ) (role : Role) (s : Network) : Type 0 where
  pub line_is : NetLine
  pub line_there : slice_get s.lines line ≡ Some line_is
  pub stands : UserStands s line line_is role
  pub registered : line < length s.register.lines

-- the line is there, and the switch of this place has it as this own line with this role
pub record IsOwnLine (line place own : ℕ) (role : Role) (s : Network) : Type 0 where
  pub line_is : NetLine
  pub line_there : slice_get s.lines line ≡ Some line_is
  pub node : PlacedSwitch
  pub node_there : slice_get s.nodes place ≡ Some (Switching node)
  pub own_line : slice_get node.lines own ≡ Some line
  pub role_is : own_role node.switch own ≡ role

abbrev pub is_host_at : ℕ → Network → Bool
is_host_at place s = is_host (user_at place s)

abbrev pub pad_terminals : ℕ → Network → Option ℕ
pad_terminals place s = terminals_there (user_at place s)
