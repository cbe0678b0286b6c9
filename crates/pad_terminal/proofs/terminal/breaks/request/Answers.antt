use Rattle.std.proofs.Common.{rules, tests}
use Rattle.pad_terminal.proofs.terminal.breaks.request.Goals as goal

pub returns-then-call-2 : goal.returns-then-call-2
returns-then-call-2 c = search (rules, tests)
