use Rattle.std.proofs.Common.{rules, tests}
use Rattle.node_events.proofs.hosts.take.Goals as goal

pub returns-clause-book : goal.returns-clause-book
returns-clause-book c = search (rules, tests)
