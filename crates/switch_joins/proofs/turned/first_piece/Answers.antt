use Rattle.std.proofs.Common.{rules, tests}
use Rattle.switch_joins.proofs.turned.first_piece.Goals as goal

pub returns : goal.returns
returns c = search (rules, tests)
