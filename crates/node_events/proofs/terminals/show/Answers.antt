use Rattle.std.proofs.Common.{rules, tests}
use Rattle.node_events.proofs.terminals.show.Goals as goal

pub returns-clause-text : goal.returns-clause-text
returns-clause-text c = search (rules, tests)
