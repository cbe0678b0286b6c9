use Rattle.std.proofs.Common.{◌≡◌, ◌≤◌}
use Rattle.packet_layer.specs.Layer.{Timer}
use Rattle.packet_layer.specs.LayerTimers.{brought_channels, brought_restart, RunsAsWanted, IsTimer, channel_number}
use Rattle.packet_layer.proofs.layer_timers.LayerTimers.bring_all.Given as goal

abbrev pub invariant-loop-place : goal.invariant-loop-place
invariant-loop-place l = record {
  timers : l.self ≡ brought_channels l.layer.layer l.place (brought_restart l.layer.layer l.fn.self);
  agree : (timer : Timer) → IsTimer timer → channel_number timer ≤ l.place → RunsAsWanted l.layer.layer l.self timer;
}
