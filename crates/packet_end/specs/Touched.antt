-- What happened at an end of a line since its last event, and what is so of the timers that it does not concern.
use Rattle.std.specs.Prelude.{◌≡◌, ◌≢◌, ℕ, ◌≤◌, Bool, true, false, ◌==◌, Option, Some, None}
use Rattle.packet_channel.specs.Channel.{Request}
use Rattle.packet_channel.specs.Channel.Request.{Accept, Clearing, Resetting}
use Rattle.packet_layer.specs.Layer.{Layer, Timer}
use Rattle.packet_layer.specs.LayerTimers.{LayerTimers, RunsAsWanted, IsTimer, channel_number}
use Rattle.packet_end.specs.declared.touched.Touched.{Touched}
use Rattle.packet_end.specs.declared.touched.Touched.TheVariants.{Nothing, NoTimer, Channel, Everything}

-- whether it concerns the timers of a channel
abbrev pub has : Touched → (channel : ℕ) → Bool
has Nothing n = false
has NoTimer n = false
has (Channel channel) n = n == channel
has Everything n = true

-- something happened
abbrev pub IsTouched : Touched → Type 0
IsTouched Nothing = ⊥
IsTouched touched = Unit {0}

-- each timer that it does not concern runs exactly where the layer wants it to
abbrev pub OthersAgree : Layer → LayerTimers → Touched → Type 0
OthersAgree l timers touched =
    (timer : Timer) → IsTimer timer → has touched (channel_number timer) ≡ false → RunsAsWanted l timers timer

-- octets name a channel, which is another than this one, and do not speak of the restart
abbrev pub NamesAnother : Option ℕ → ℕ → Type 0
NamesAnother None n = ⊥
NamesAnother (Some channel) n = (1 ≤ channel) × (n ≢ channel)

-- a request may begin or end an own call, reset or clear
abbrev pub is_of_call : Request → Bool
is_of_call Accept = true
is_of_call (Clearing cause diagnostic) = true
is_of_call (Resetting cause diagnostic) = true
is_of_call _ = false
