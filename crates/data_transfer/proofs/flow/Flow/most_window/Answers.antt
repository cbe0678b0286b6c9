use Rattle.std.proofs.Common.{rules, tests}
use Rattle.data_transfer.proofs.flow.Flow.most_window.Goals as goal

pub returns-in-Modulo128 : goal.returns-in-Modulo128
returns-in-Modulo128 c = search (rules, tests)
