-- Channels that have nothing for the link.
use Rattle.std.specs.Prelude.{◌≡◌, ℕ, false, List, Some, is_some, slice_get}
use Rattle.number_set.specs.NumberSet.{has}
use Rattle.number_set.specs.declared.NumberSet.{NumberSet}
use Rattle.packet_channel.specs.Channel.{Channel, next_of}
use Rattle.data_transfer.specs.declared.flow.Flow.{Flow}

-- those whose places are not in the set
pub record OthersAreSilent (flow : Flow) (places : NumberSet) (chs : List Channel) : Type 0 where
  pub silent : (place : ℕ) (ch : Channel) → slice_get chs place ≡ Some ch → has places place ≡ false →
      is_some (next_of flow ch).body ≡ false
