use Rattle.std.proofs.Common.{rules, tests}
use Rattle.flow_window.proofs.send.SendWindow.next_number.Goals as goal

pub returns-clause-value : goal.returns-clause-value
returns-clause-value g c = search (rules, tests)
