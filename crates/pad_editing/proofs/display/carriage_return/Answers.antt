use Rattle.std.proofs.Common.{rules, tests}
use Rattle.pad_editing.proofs.display.carriage_return.Goals as goal

pub returns-clause-text : goal.returns-clause-text
returns-clause-text g c = search (rules, tests)
