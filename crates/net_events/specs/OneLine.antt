-- One line of a network: the two nodes at its ends, the frames in flight, and the book of its calls.
use Rattle.std.specs.Prelude.{ℕ}
use Rattle.link_timers.specs.declared.role.Role.{Role}
use Rattle.link_timers.specs.declared.role.Role.TheVariants.{Dte, Dce}
use Rattle.frame_lines.specs.declared.line.Direction.{Direction}
use Rattle.frame_lines.specs.declared.line.Direction.TheVariants.{FromDte, FromDce}
use Rattle.frame_lines.specs.Lines.{Flights}
use Rattle.call_records.specs.Book.{Book}
use Rattle.user_nodes.specs.Node.{NodeState, drained}
use Rattle.user_nodes.specs.Turn.{Turn}

-- the places of the two nodes in the network, the nodes, the frames in flight and the book
pub record LineState : Type 0 where
  pub dte_place : ℕ
  pub dce_place : ℕ
  pub dte : NodeState
  pub dce : NodeState
  pub flights : Flights
  pub book : Book

-- the node at the end of a role
abbrev pub node_at : Role → LineState → NodeState
node_at Dte s = s.dte
node_at Dce s = s.dce

abbrev pub with_node : Role → NodeState → LineState → LineState
with_node Dte n s = record s { dte = n }
with_node Dce n s = record s { dce = n }

-- after a turn of the node at the end of a role, whose frames were put: these are in flight then
abbrev pub with_turn : Role → Turn → Flights → LineState → LineState
with_turn role turn flights s = with_node role (drained turn.node) (record s { flights = flights; book = turn.book })

-- the end of this role sends in this direction
abbrev pub direction_of : Role → Direction
direction_of Dte = FromDte
direction_of Dce = FromDce

-- and what comes to it is in the other one
abbrev pub direction_to : Role → Direction
direction_to Dte = FromDce
direction_to Dce = FromDte
