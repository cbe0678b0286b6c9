use Rattle.std.proofs.Common.{rules, tests}
use Rattle.net_nodes.proofs.nodes.serving.hearer.Goals as goal

pub returns-in-FromDte : goal.returns-in-FromDte
returns-in-FromDte c = search (rules, tests)
