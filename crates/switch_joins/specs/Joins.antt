-- The joins of the channels of a line: of channels 1, 2 and so on what each is joined to, if it is.
use Rattle.std.specs.Prelude.{ℕ, zero, suc, Bool, ◌&&◌, ◌==◌, List, length, set, slice_get, Option, Some, None}
use Rattle.switch_joins.specs.Turning.{Gathered, nothing_gathered}
use Rattle.switch_joins.specs.Direction.{Direction}
-- a logical channel of a line; lines are numbered from 0, channels from 1
pub use Rattle.switch_joins.specs.declared.channels.SwitchChannel.{SwitchChannel}

-- what a channel has whose call is joined to another one: that one, whether the call came in here, and the direction
-- from here to there
pub record Joined : Type 0 where
  pub other : SwitchChannel
  pub came_in : Bool
  pub kept : Direction

abbrev pub same_place : SwitchChannel → SwitchChannel → Bool
same_place p q = (p.line == q.line) && (p.channel == q.channel)

abbrev pub flat : {X : Type 0} → Option (Option X) → Option X
flat None = None
flat (Some o) = o

abbrev pub nth_joined : List (Option Joined) → (channel : ℕ) → Option Joined
nth_joined js zero = None
nth_joined js (suc i) = flat (slice_get js i)

abbrev pub with_nth_joined : List (Option Joined) → (channel : ℕ) → Option Joined → List (Option Joined)
with_nth_joined js zero o = js
with_nth_joined js (suc i) o = set js i o

-- a join with the direction from its channel changed
abbrev pub joined_with : (Direction → Direction) → Option Joined → Option Joined
joined_with f None = None
joined_with f (Some j) = Some (record j { kept = f j.kept })

abbrev pub with_nth_kept : List (Option Joined) → (channel : ℕ) → (Direction → Direction) → List (Option Joined)
with_nth_kept js c f = with_nth_joined js c (joined_with f (nth_joined js c))

-- what is gathered from a channel, if it is joined, and whether this is nothing
abbrev pub gathered_by : Option Joined → Gathered
gathered_by None = nothing_gathered
gathered_by (Some j) = j.kept.gathered

abbrev pub gathers_nothing : Option Joined → Bool
gathers_nothing o = length (gathered_by o).octets == 0
