use Rattle.std.proofs.Common.{rules, tests}
use Rattle.switch_lines.proofs.lines.Lines.route.Goals as goal

pub returns : goal.returns
returns c = search (rules, tests)
