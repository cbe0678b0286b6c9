use Rattle.std.proofs.Common.{rules, tests}
use Rattle.data_transfer.proofs.traffic.Traffic.clear.Goals as goal

pub invariant_of-self : goal.invariant_of-self
invariant_of-self c = search (rules, tests)

pub returns-clause-traffic : goal.returns-clause-traffic
returns-clause-traffic c = search (rules, tests)
