use Rattle.std.proofs.Common.{rules, tests}
use Rattle.x25_pad.proofs.pad.Pad.due.Goals as goal

pub returns-in-Some : goal.returns-in-Some
returns-in-Some c = search (rules, tests)
