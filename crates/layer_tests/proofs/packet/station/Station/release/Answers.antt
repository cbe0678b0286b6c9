use Rattle.packet_channel.specs.Channel.Request.{Releasing}
use Rattle.layer_tests.proofs.Packets.Stations.{kept}
use Rattle.layer_tests.proofs.packet.station.Station.release.Goals as goal

pub invariant_of-self : goal.invariant_of-self
invariant_of-self c =
    kept c.self.inside c.release.new.self c.args.channel (Releasing c.args.count) c.self.invariant c.release.ensures.layer c.release.ensures.most c.release.ensures.held
