use Rattle.std.proofs.Common.{rules, tests}
use Rattle.flow_window.proofs.send.SendWindow.contains.Goals as goal

pub returns-in-Some : goal.returns-in-Some
returns-in-Some g c = search (rules, tests)
