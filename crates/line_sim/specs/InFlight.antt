-- Lines on which no frame is in flight.
use Rattle.std.specs.Prelude.{◌≡◌, ◌≢◌, ℕ, false, List, slice_get, Some}
use Rattle.frame_lines.specs.declared.line.Direction.TheVariants.{FromDte, FromDce}
use Rattle.frame_lines.specs.Lines.{LineService}
use Rattle.net_events.specs.Network.{Network}
use Rattle.net_events.specs.declared.answer.Put.{Put}
use Rattle.net_nodes.specs.Happening.{FindsNoFrame}
use Rattle.number_set.specs.declared.NumberSet.{NumberSet}
use Rattle.wide_set.specs.WideSet.{has}
use Rattle.line_sim.specs.Between.{IsBetweenEvents}

-- deliveries on a line find no frame, in either direction
abbrev pub FindNone : LineService → (line : ℕ) → Network → Type 0
FindNone L line s = FindsNoFrame L line FromDte s × FindsNoFrame L line FromDce s

-- it is so on each line that is not in the set
abbrev pub OthersFindNone : LineService → (busy : List NumberSet) → Network → Type 0
OthersFindNone L busy s = (line : ℕ) → has busy line ≡ false → FindNone L line s

-- what holds of a network between events, and of the lines on which frames may be in flight
pub record IsKept (L : LineService) (busy : List NumberSet) (s : Network) : Type 0 where
  pub between : IsBetweenEvents L s
  pub others : OthersFindNone L busy s

-- none of these frames was put on the line
abbrev pub IsNotPutOn : (line : ℕ) → List Put → Type 0
IsNotPutOn line puts = (at : ℕ) (put : Put) → slice_get puts at ≡ Some put → put.line ≢ line
