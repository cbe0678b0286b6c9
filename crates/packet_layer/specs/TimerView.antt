-- The timers of a packet layer, as the code has them.
use Rattle.std.specs.Prelude.{Option, Some, None}
use Rattle.packet_layer.specs.Layer as spec
use Rattle.packet_layer.specs.declared.layer_timers.Timer.{Timer}
use Rattle.packet_layer.specs.declared.layer_timers.Timer.TheVariants as timer

abbrev pub timer_of : Timer → spec.Timer
timer_of timer.Restart = spec.Timer.RestartTimer
timer_of (timer.Call channel) = spec.Timer.CallTimer channel
timer_of (timer.Reset channel) = spec.Timer.ResetTimer channel
timer_of (timer.Clear channel) = spec.Timer.ClearTimer channel

abbrev pub maybe_timer : Option Timer → Option spec.Timer
maybe_timer None = None
maybe_timer (Some t) = Some (timer_of t)
