use Rattle.std.proofs.Common.{rules, tests}
use Rattle.joined_line.proofs.line.send_on.Goals as goal

pub returns-in_default-clause-line : goal.returns-in_default-clause-line
returns-in_default-clause-line c = search (rules, tests)
