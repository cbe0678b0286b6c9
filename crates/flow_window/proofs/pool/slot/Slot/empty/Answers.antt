use Rattle.std.proofs.Common.{rules, tests}
use Rattle.flow_window.proofs.pool.slot.Slot.empty.Goals as goal

pub returns : goal.returns
returns c = search (rules, tests)
