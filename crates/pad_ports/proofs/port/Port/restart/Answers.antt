use Rattle.std.proofs.Common.{rules, tests}
use Rattle.pad_ports.proofs.port.Port.restart.Goals as goal

pub returns : goal.returns
returns c = search (rules, tests)
