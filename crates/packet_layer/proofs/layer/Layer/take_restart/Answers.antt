use Rattle.std.proofs.Common.{arith}
use Rattle.packet_layer.proofs.Placed.{few, own_few}
use Rattle.packet_layer.proofs.layer.Layer.take_restart.Goals as goal

pub returns : goal.returns
returns c = grind (arith, own_few, few)

pub returns-2 : goal.returns-2
returns-2 c = grind (arith, own_few, few)

pub returns-3-clause-few : goal.returns-3-clause-few
returns-3-clause-few c = grind (arith, own_few, few)
