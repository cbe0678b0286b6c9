use Rattle.std.proofs.Common.{rules, tests}
use Rattle.link_timers.proofs.channel_timers.ChannelTimers.bring.Goals as goal

pub returns-then-runs-clause-timers : goal.returns-then-runs-clause-timers
returns-then-runs-clause-timers c = search (rules, tests)
