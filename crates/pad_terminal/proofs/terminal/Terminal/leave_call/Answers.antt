use Rattle.std.proofs.Common.{rules, tests}
use Rattle.pad_terminal.proofs.terminal.Terminal.leave_call.Goals as goal

pub returns : goal.returns
returns c = search (rules, tests)
