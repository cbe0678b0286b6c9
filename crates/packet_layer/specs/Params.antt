-- The parameters of a packet layer.
use Rattle.std.specs.Prelude.{ℕ, ◌≤◌}
use Rattle.data_transfer.specs.Flow.{IsFlow}
use Rattle.data_transfer.specs.declared.flow.Flow.{Flow}
use Rattle.packet_layer.specs.declared.fault.LayerFault.{LayerFault}
use Rattle.packet_layer.specs.declared.fault.LayerFault.TheVariants.{BadParams, OutOfMemory}

pub record AreParams (channels : ℕ) (flow : Flow) : Type 0 where
  pub channels_least : 1 ≤ channels
  pub channels_most : channels ≤ 32
  pub flow_is : IsFlow flow

abbrev pub MadeNot : (channels : ℕ) (flow : Flow) → LayerFault → Type 0
MadeNot channels flow BadParams = AreParams channels flow → ⊥
MadeNot channels flow OutOfMemory = AreParams channels flow
