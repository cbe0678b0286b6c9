use Rattle.std.proofs.Common.{rules, tests}
use Rattle.flow_window.proofs.seq.Seq.ahead_of.Goals as goal

pub returns-clause-value : goal.returns-clause-value
returns-clause-value g c = search (rules, tests)
