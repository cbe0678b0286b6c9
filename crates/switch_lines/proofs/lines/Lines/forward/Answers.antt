use Rattle.std.proofs.Common.{rules, tests}
use Rattle.switch_lines.proofs.lines.Lines.forward.Goals as goal

pub returns-then-not-is_empty-clause-answer : goal.returns-then-not-is_empty-clause-answer
returns-then-not-is_empty-clause-answer c = search (rules, tests)
