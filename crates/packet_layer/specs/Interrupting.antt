-- Whether an interrupt may be sent.
use Rattle.std.specs.Prelude.{ℕ, Bool, false, ◌&&◌, not, Option, Some, None}
use Rattle.data_transfer.specs.Traffic.{interrupt_pending}
use Rattle.packet_channel.specs.Channel.{Channel, has_flow}
use Rattle.packet_layer.specs.Layer.{Layer, channel_of}

-- an interrupt of 1 to 32 octets may be sent: data may be queued, and no interrupt is pending
abbrev pub may_interrupt_at : Option Channel → Bool
may_interrupt_at None = false
may_interrupt_at (Some ch) = has_flow ch && not (interrupt_pending ch.traffic)

abbrev pub may_interrupt : Layer → ℕ → Bool
may_interrupt l c = may_interrupt_at (channel_of l c)
