-- A packet layer with the buffers of a pool that it holds.
use Rattle.std.specs.Prelude.{ℕ, ◌+◌, ◌*◌, ◌≤◌, List, [], ◌∷◌, ◌++◌, length, map}
use Rattle.flow_window.specs.Pool.{Pool, Buffer, in_use}
use Rattle.packet_channel.specs.Channel.{Channel}
pub use Rattle.data_transfer.specs.Held.{Loses, Takes}
use Rattle.packet_channel.specs.Held.{Channel as Holder, Fits}
use Rattle.data_transfer.specs.declared.flow.Flow.{Flow}
use Rattle.packet_layer.specs.Layer as machine

pub record Layer : Type 0 where
  pub layer : machine.Layer
  pub held : List Buffer

-- channels apart from their buffers
abbrev pub plain : List Holder → List Channel
plain cs = map (λ c. c.channel) cs

-- the buffers of all channels, in their order
abbrev pub buffers : List Holder → List Buffer
buffers [] = []
buffers (c ∷ cs) = c.held ++ buffers cs

-- each channel holds no more than the window and the send queue have room for
abbrev pub AllFit : (flow : Flow) → List Holder → Type 0
AllFit flow [] = Unit {0}
AllFit flow (c ∷ cs) = Fits flow c × AllFit flow cs

-- the most buffers that a layer holds: on each channel those of the window and of the send queue
abbrev pub most_held : machine.Layer → ℕ
most_held l = length l.channels * (l.flow.window + 8)

-- beside what others hold of the pool there is room for so many buffers
abbrev pub HasRoom : Pool → (held : List Buffer) → (most : ℕ) → Type 0
HasRoom pool held most = in_use pool + most ≤ length pool.places + length held
