use Rattle.std.proofs.Common.{rules, tests}
use Rattle.octet_streams.proofs.reading.ReadFaultFromIoError.from.Goals as goal

pub returns-in-OutOfMemory : goal.returns-in-OutOfMemory
returns-in-OutOfMemory c = search (rules, tests)
