use Rattle.number_set.specs.NumberSet.{has}
use Rattle.link_timers.proofs.RunningLaws.{none_run}
use Rattle.link_timers.proofs.channel_timers.ChannelTimers.new.Goals as goal

pub invariant_of-result : goal.invariant_of-result
invariant_of-result c = none_run 33 (λ n. has c.new.result n) c.new.ensures
