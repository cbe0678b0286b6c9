use Rattle.std.proofs.Common.{arith}
use Rattle.std.proofs.lemmas.Grind.{common_steps}
use Rattle.flow_window.proofs.Weights.{weight_append}
use Rattle.data_transfer.proofs.Short.{short_append}
use Rattle.data_transfer.proofs.traffic.Traffic.hear_data.Goals as goal

pub returns-clause-pool : goal.returns-clause-pool
returns-clause-pool c = grind (arith, weight_append)

pub returns-clause-most : goal.returns-clause-most
returns-clause-most c = grind (arith, common_steps)

pub returns-clause-arrived : goal.returns-clause-arrived
returns-clause-arrived c = grind (arith, common_steps)

pub returns-clause-short : goal.returns-clause-short
returns-clause-short c = grind (arith, short_append)

pub invariant_of-self : goal.invariant_of-self
invariant_of-self c = grind (arith, common_steps)
