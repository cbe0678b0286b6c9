use Rattle.std.proofs.Common.{rules, tests}
use Rattle.link_timers.proofs.countdown.Countdown.is_due.Goals as goal

pub returns : goal.returns
returns c = search (rules, tests)
