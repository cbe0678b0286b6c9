-- Joins with the buffers of a pool that they hold: what is gathered of a direction lies in one.
use Rattle.std.specs.Prelude.{ℕ, ◌≤◌, Bool, List, [], ◌∷◌, ◌++◌, length, map, Option, Some, None}
use Rattle.std.specs.Option.{option_map}
use Rattle.flow_window.specs.Pool.{Buffer}
use Rattle.switch_joins.specs.Turning.{Gathered, nothing_gathered}
use Rattle.switch_joins.specs.Direction.{Direction, new_direction}
use Rattle.switch_joins.specs.Joins.{SwitchChannel, Joined}
use Rattle.switch_joins.specs.declared.join.Joined.{Joined as NewJoin}
-- octets that are gathered, in their buffer, and their Q
pub use Rattle.switch_joins.specs.declared.gathering.Gathering.{Gathering}

-- a direction, with what is gathered in its buffer
pub record HeldDirection : Type 0 where
  pub held : List ℕ
  pub outstanding : ℕ
  pub gathered : Option Gathering

abbrev pub gathered_in : Option Gathering → Gathered
gathered_in None = nothing_gathered
gathered_in (Some g) = record { octets = g.buffer.octets; qualified = g.qualified }

abbrev pub buffers_in : Option Gathering → List Buffer
buffers_in None = []
buffers_in (Some g) = g.buffer ∷ []

abbrev pub direction_in : HeldDirection → Direction
direction_in v = record { held = v.held; outstanding = v.outstanding; gathered = gathered_in v.gathered }

-- what is gathered has octets, and no more than a packet
abbrev pub IsPart : Option Gathering → Type 0
IsPart None = Unit {0}
IsPart (Some g) = (1 ≤ length g.buffer.octets) × (length g.buffer.octets ≤ 1024)

-- the place for a join that a channel has
pub record HeldJoin : Type 0 where
  pub other : SwitchChannel
  pub came_in : Bool
  pub kept : HeldDirection

abbrev pub join_in : HeldJoin → Joined
join_in j = record { other = j.other; came_in = j.came_in; kept = direction_in j.kept }

abbrev pub joined_in : Option HeldJoin → Option Joined
joined_in o = option_map join_in o

abbrev pub buffers_of : Option HeldJoin → List Buffer
buffers_of None = []
buffers_of (Some j) = buffers_in j.kept.gathered

-- the joins of the channels of a line, and the buffers that they hold
pub record HeldJoins : Type 0 where
  pub joined : List (Option Joined)
  pub held : List Buffer

abbrev pub plain : List (Option HeldJoin) → List (Option Joined)
plain os = map joined_in os

abbrev pub buffers : List (Option HeldJoin) → List Buffer
buffers [] = []
buffers (o ∷ os) = buffers_of o ++ buffers os

-- a call is joined with a new direction
abbrev pub begun : NewJoin → Joined
begun j = record { other = j.other; came_in = j.came_in; kept = new_direction }
