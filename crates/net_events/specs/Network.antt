-- A network of nodes and lines: the nodes, each with users and at one line, or a switch at its lines; the lines, each
-- between two nodes; and the register of the records and pairs of all calls.
use Rattle.std.specs.Prelude.{◌≡◌, ℕ, ◌⊎◌, List, map, set, length, slice_get, Some, unwrap_or}
use Rattle.link_timers.specs.declared.role.Role.{Role}
use Rattle.link_timers.specs.declared.role.Role.TheVariants.{Dte, Dce}
use Rattle.call_records.specs.Register.{Register, book_at, with_book}
use Rattle.user_nodes.specs.Node.{NodeState, drained, frames_of, node_elapsed}
use Rattle.user_nodes.specs.Turn.{Turn}
use Rattle.frame_lines.specs.declared.line.Direction.{Direction}
use Rattle.frame_lines.specs.Lines.{Flights, without_first, LineService, ArePut}
use Rattle.switch_lines.specs.Lines.{role_on}
use Rattle.switch_lines.specs.Switch.{Switch, elapse}
use Rattle.net_events.specs.OneLine.{direction_of}
use Rattle.net_events.specs.NodeEvents.{NodeEvent, IsFor, turn_of, LeftBy}

-- a node with users: the line at which it stands, and its state
pub record PlacedNode : Type 0 where
  pub line : ℕ
  pub node : NodeState

-- a switch: the lines of the network that its own lines are, in order, and its state
pub record PlacedSwitch : Type 0 where
  pub lines : List ℕ
  pub switch : Switch

pub data NetNode : Type 0 where
  User : PlacedNode → NetNode
  Switching : PlacedSwitch → NetNode

-- a line: the places of the nodes at its ends, how many logical channels it has, and the frames in flight
pub record NetLine : Type 0 where
  pub dte : ℕ
  pub dce : ℕ
  pub channels : ℕ
  pub flights : Flights

pub record Network : Type 0 where
  pub nodes : List NetNode
  pub lines : List NetLine
  pub register : Register

-- the place of the node at the end of a role
abbrev pub place_at : Role → NetLine → ℕ
place_at Dte l = l.dte
place_at Dce l = l.dce

-- the node with users of this place stands at an end of its line
pub record StandsAtLine (lines : List NetLine) (place : ℕ) (n : PlacedNode) : Type 0 where
  pub line : NetLine
  pub there : slice_get lines n.line ≡ Some line
  pub at_end : (line.dte ≡ place) ⊎ (line.dce ≡ place)

-- the role of a switch on an own line, and that of a DCE on a line that is not there
abbrev pub own_role : Switch → (own : ℕ) → Role
own_role s own = unwrap_or (role_on (slice_get s.lines own)) Dce

-- the node of this place is at the end of a role of a line
pub record IsAtEnd (lines : List NetLine) (place : ℕ) (role : Role) (line : ℕ) : Type 0 where
  pub line_is : NetLine
  pub there : slice_get lines line ≡ Some line_is
  pub at_end : place_at role line_is ≡ place

-- the switch of this place has one line of the network for each own line, no line for two, and is at the end of its
-- role of each
pub record StandsAtLines (lines : List NetLine) (place : ℕ) (n : PlacedSwitch) : Type 0 where
  pub count : length n.lines ≡ length n.switch.lines
  pub apart : (own other line : ℕ) → slice_get n.lines own ≡ Some line → slice_get n.lines other ≡ Some line
      → own ≡ other
  pub each : (own line : ℕ) → slice_get n.lines own ≡ Some line → IsAtEnd lines place (own_role n.switch own) line

abbrev pub Stands : (lines : List NetLine) → (place : ℕ) → NetNode → Type 0
Stands lines place (User n) = StandsAtLine lines place n
Stands lines place (Switching n) = StandsAtLines lines place n

-- ---- what happens

-- a turn of a node with users at this place, at the end of a line, whose frames were put: these are in flight then
abbrev pub with_turn_at : (line : ℕ) → NetLine → (place : ℕ) → PlacedNode → Turn → Flights → Network → Network
with_turn_at line l place n turn flights s = record {
  nodes = set s.nodes place (User (record n { node = drained turn.node }));
  lines = set s.lines line (record l { flights = flights });
  register = with_book line turn.book s.register;
}

-- what an event at a node makes of it and of what the register has of its line
abbrev pub net_turn : NodeEvent → (line : ℕ) → Role → PlacedNode → Network → Turn
net_turn event line role n s = turn_of event role n.node (book_at line s.register)

-- the event happened at the node with users at the end of a role of a line: the node had its turn, its frames were put
-- on the line, and what it asked and told was written at the line
pub record HappenedAt (L : LineService) (event : NodeEvent) (line : ℕ) (role : Role) (s t : Network) : Type 0 where
  pub line_is : NetLine
  pub line_there : slice_get s.lines line ≡ Some line_is
  pub node : PlacedNode
  pub node_there : slice_get s.nodes (place_at role line_is) ≡ Some (User node)
  pub is_for : IsFor event node.node
  pub between : Flights
  pub left : L.faithful → LeftBy event role line_is.flights between
  pub flights : Flights
  pub put : L.faithful
      → ArePut L (direction_of role) (frames_of (net_turn event line role node s).node) between flights
  pub others : t ≡ with_turn_at line line_is (place_at role line_is) node (net_turn event line role node s) flights s

-- the first frame in flight in a direction of a line, if any, is lost
pub record LostAt (L : LineService) (line : ℕ) (d : Direction) (s t : Network) : Type 0 where
  pub line_is : NetLine
  pub line_there : slice_get s.lines line ≡ Some line_is
  pub flights : Flights
  pub rest : L.faithful → flights ≡ without_first d line_is.flights
  pub others : t ≡ record s { lines = set s.lines line (record line_is { flights = flights }) }

-- ticks pass at every node
abbrev pub elapsed_node : (ticks : ℕ) → NetNode → NetNode
elapsed_node ticks (User n) = User (record n { node = node_elapsed ticks n.node })
elapsed_node ticks (Switching n) = Switching (record n { switch = elapse ticks n.switch })

abbrev pub all_elapsed : (ticks : ℕ) → Network → Network
all_elapsed ticks s = record s { nodes = map (elapsed_node ticks) s.nodes }
