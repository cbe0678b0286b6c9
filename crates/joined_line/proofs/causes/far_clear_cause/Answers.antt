use Rattle.std.proofs.Common.{rules, tests}
use Rattle.joined_line.proofs.causes.far_clear_cause.Goals as goal

pub returns-in-FarRestart : goal.returns-in-FarRestart
returns-in-FarRestart c = search (rules, tests)
