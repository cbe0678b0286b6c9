-- Which ports of a PAD the end of an event has to look at: those that something touched since. All others are settled.
use Rattle.std.specs.Prelude.{◌≡◌, ℕ, ◌<◌, true, false, List, length, slice_get, Some}
use Rattle.number_set.specs.NumberSet.{has}
use Rattle.number_set.specs.declared.NumberSet.{NumberSet}
use Rattle.pad_ports.specs.Ports.{PortState}
use Rattle.pad_ports.specs.Settled.{IsSettled}

pub record NothingElseToSettle (touched : NumberSet) (ports : List PortState) : Type 0 where
  pub there : (n : ℕ) → has touched n ≡ true → n < length ports
  pub settled : (n : ℕ) (p : PortState) → has touched n ≡ false → slice_get ports n ≡ Some p → IsSettled p
