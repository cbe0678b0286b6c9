use Rattle.std.proofs.Common.{rules, tests}
use Rattle.net_nodes.proofs.nodes.Nodes.is_at_rest.Goals as goal

pub returns-then-are_lines_empty : goal.returns-then-are_lines_empty
returns-then-are_lines_empty g c = search (rules, tests)

pub returns-else-are_lines_empty : goal.returns-else-are_lines_empty
returns-else-are_lines_empty g c = search (rules, tests)
