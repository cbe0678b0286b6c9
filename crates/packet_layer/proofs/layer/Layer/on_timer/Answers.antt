use Rattle.std.proofs.Common.{arith}
use Rattle.packet_layer.proofs.Placed.{few, own_few}
use Rattle.packet_layer.proofs.layer.Layer.on_timer.Goals as goal

pub returns-else-runs_own-clause-few : goal.returns-else-runs_own-clause-few
returns-else-runs_own-clause-few c = grind (arith, own_few, few)

pub returns-in_default-clause-few : goal.returns-in_default-clause-few
returns-in_default-clause-few c = grind (arith, own_few, few)
