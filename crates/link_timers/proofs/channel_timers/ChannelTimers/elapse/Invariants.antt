use Rattle.std.proofs.Common.{◌≡◌}
use Rattle.number_set.specs.NumberSet.{has}
use Rattle.link_timers.proofs.RunningLaws.{IsLowered}
use Rattle.link_timers.proofs.channel_timers.ChannelTimers.elapse.Given as goal

abbrev pub invariant-loop-place : goal.invariant-loop-place
invariant-loop-place l = record {
  lowered : IsLowered l.ticks l.initial.self-inside.left l.self-inside.left (λ n. has l.self-inside.running n) (λ n. has l.running n);
  running : l.self-inside.running ≡ l.initial.self-inside.running;
}

abbrev pub decreases-loop-place : goal.decreases-loop-place
decreases-loop-place l = l.running.bits
