use Rattle.std.proofs.Common.{rules, tests}
use Rattle.flow_window.proofs.send.SendWindow.send_up_to.Goals as goal

pub returns-clause-window : goal.returns-clause-window
returns-clause-window g c = search (rules, tests)

pub returns-clause-counts : goal.returns-clause-counts
returns-clause-counts g c = search (rules, tests)
