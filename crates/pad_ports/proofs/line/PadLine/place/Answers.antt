use Rattle.std.proofs.lemmas.Grind.{common_steps}
use Rattle.std.proofs.Common.{rules, tests, arith}
use Rattle.pad_ports.proofs.line.PadLine.place.Goals as goal

pub returns-clause-line : goal.returns-clause-line
returns-clause-line c = search (rules, tests)

pub returns-clause-room : goal.returns-clause-room
returns-clause-room c = grind (arith, common_steps)
