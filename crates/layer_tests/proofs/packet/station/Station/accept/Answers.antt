use Rattle.packet_channel.specs.Channel.Request.{Accept}
use Rattle.layer_tests.proofs.Packets.Stations.{kept}
use Rattle.layer_tests.proofs.packet.station.Station.accept.Goals as goal

pub invariant_of-self : goal.invariant_of-self
invariant_of-self c =
    kept c.self.inside c.accept.new.self c.args.channel Accept c.self.invariant c.accept.ensures.layer c.accept.ensures.most c.accept.ensures.held
