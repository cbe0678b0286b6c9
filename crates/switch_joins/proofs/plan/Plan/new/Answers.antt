use Rattle.std.proofs.Common.{rules, tests}
use Rattle.switch_joins.proofs.plan.Plan.new.Goals as goal

pub returns-then-is_full-clause-plan : goal.returns-then-is_full-clause-plan
returns-then-is_full-clause-plan c = search (rules, tests)

pub returns-then-is_full-clause-waits : goal.returns-then-is_full-clause-waits
returns-then-is_full-clause-waits c = search (rules, tests)

pub returns-else-is_full-clause-plan : goal.returns-else-is_full-clause-plan
returns-else-is_full-clause-plan c = search (rules, tests)
