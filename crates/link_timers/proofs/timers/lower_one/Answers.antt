use Rattle.std.proofs.Common.{rules, tests}
use Rattle.link_timers.proofs.timers.lower_one.Goals as goal

pub returns : goal.returns
returns c = search (rules, tests)
