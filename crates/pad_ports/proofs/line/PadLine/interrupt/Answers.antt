use Rattle.std.proofs.Common.{rules, tests}
use Rattle.pad_ports.proofs.line.PadLine.interrupt.Goals as goal

pub returns-clause-line : goal.returns-clause-line
returns-clause-line c = search (rules, tests)
