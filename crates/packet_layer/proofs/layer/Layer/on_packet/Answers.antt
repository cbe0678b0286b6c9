use Rattle.packet_layer.proofs.Placed.{few, own_few}
use Rattle.std.proofs.Common.{rules, tests, arith}
use Rattle.packet_layer.proofs.layer.Layer.on_packet.Goals as goal

pub returns-in-Err-UnknownType-clause-layer : goal.returns-in-Err-UnknownType-clause-layer
returns-in-Err-UnknownType-clause-layer c = search (rules, tests)

pub returns-in-Err-TooShort-clause-few : goal.returns-in-Err-TooShort-clause-few
returns-in-Err-TooShort-clause-few c = grind (arith, own_few, few)
