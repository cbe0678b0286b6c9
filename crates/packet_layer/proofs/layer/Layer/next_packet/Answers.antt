use Rattle.std.proofs.Common.{arith}
use Rattle.std.proofs.lemmas.Grind.{elements}
use Rattle.packet_layer.proofs.Placed.{own_few, few}
use Rattle.packet_layer.proofs.Unsent.{unsent_after}
use Rattle.packet_layer.proofs.layer.Layer.next_packet.Goals as goal

pub returns-then-matches-clause-few : goal.returns-then-matches-clause-few
returns-then-matches-clause-few c = own_few c.self.inside c.args.self.now c.self.invariant c.self.view_is

pub returns-in-Some-clause-few : goal.returns-in-Some-clause-few
returns-in-Some-clause-few c =
    few c.self.inside.flow c.self.inside.channels.items c.self.invariant.fits

pub returns-clause-few : goal.returns-clause-few
returns-clause-few c = c.serve.ensures.few

pub serve-requires-clause-few : goal.serve-requires-clause-few
serve-requires-clause-few c = own_few c.self.inside c.args.self.now c.self.invariant c.self.view_is

pub returns-clause-heard : goal.returns-clause-heard
returns-clause-heard c = grind (arith, elements)

pub returns-clause-layer : goal.returns-clause-layer
returns-clause-layer c = grind (arith, elements)

pub returns-clause-octets : goal.returns-clause-octets
returns-clause-octets c = grind (arith, elements)

pub returns-clause-said : goal.returns-clause-said
returns-clause-said c = grind (arith, elements)

pub returns-clause-unsent : goal.returns-clause-unsent
returns-clause-unsent c =
    unsent_after c.args.self.now.layer _ _ (returns-clause-layer c) (returns-clause-said c)
