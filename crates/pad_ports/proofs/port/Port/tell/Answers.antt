use Rattle.std.proofs.Common.{rules, tests}
use Rattle.pad_ports.proofs.port.Port.tell.Goals as goal

pub returns-clause-line : goal.returns-clause-line
returns-clause-line c = search (rules, tests)

pub returns-clause-room : goal.returns-clause-room
returns-clause-room c = search (rules, tests)
