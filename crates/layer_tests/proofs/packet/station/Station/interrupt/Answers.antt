use Rattle.packet_channel.specs.Channel.Request.{Interrupting}
use Rattle.layer_tests.proofs.Packets.Stations.{kept}
use Rattle.layer_tests.proofs.packet.station.Station.interrupt.Goals as goal

pub invariant_of-self : goal.invariant_of-self
invariant_of-self c =
    kept c.self.inside c.interrupt.new.self c.args.channel (Interrupting c.args.octets.now) c.self.invariant c.interrupt.ensures.layer c.interrupt.ensures.most c.interrupt.ensures.held
