use Rattle.std.proofs.Common.{rules, tests}
use Rattle.trace_capture.proofs.frame.read_direction.Goals as goal

pub returns-in-62-clause-value : goal.returns-in-62-clause-value
returns-in-62-clause-value c = search (rules, tests)
