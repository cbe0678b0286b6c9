use Rattle.std.proofs.Common.{rules, tests}
use Rattle.flow_window.proofs.send.SendWindow.room.Goals as goal

pub returns-clause-room : goal.returns-clause-room
returns-clause-room g c = search (rules, tests)

pub returns-clause-counts : goal.returns-clause-counts
returns-clause-counts g c = search (rules, tests)
