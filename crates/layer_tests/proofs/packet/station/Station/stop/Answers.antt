use Rattle.std.specs.Prelude.{true}
use Rattle.packet_channel.specs.Channel.Request.{Stopping}
use Rattle.layer_tests.proofs.Packets.Stations.{kept}
use Rattle.layer_tests.proofs.packet.station.Station.stop.Goals as goal

pub invariant_of-self : goal.invariant_of-self
invariant_of-self c =
    kept c.self.inside c.stop.new.self c.args.channel (Stopping true) c.self.invariant c.stop.ensures.layer c.stop.ensures.most c.stop.ensures.held
