use Rattle.number_set.specs.NumberSet.{has}
use Rattle.link_timers.proofs.RunningLaws.{IsPassed}
use Rattle.link_timers.proofs.channel_timers.ChannelTimers.first_due.Given as goal

abbrev pub invariant-loop-place : goal.invariant-loop-place
invariant-loop-place l = IsPassed l.self-inside.left (λ n. has l.self-inside.running n) (λ n. has l.running n)

abbrev pub decreases-loop-place : goal.decreases-loop-place
decreases-loop-place l = l.running.bits
