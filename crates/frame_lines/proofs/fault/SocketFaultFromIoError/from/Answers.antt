use Rattle.std.proofs.Common.{rules, tests}
use Rattle.frame_lines.proofs.fault.SocketFaultFromIoError.from.Goals as goal

pub returns-in-OutOfMemory : goal.returns-in-OutOfMemory
returns-in-OutOfMemory c = search (rules, tests)
