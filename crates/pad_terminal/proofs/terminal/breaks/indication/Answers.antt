use Rattle.std.proofs.Common.{rules, tests}
use Rattle.pad_terminal.proofs.terminal.breaks.indication.Goals as goal

pub returns : goal.returns
returns c = search (rules, tests)
