use Rattle.packet_channel.specs.Channel.Request.{Confirming}
use Rattle.layer_tests.proofs.Packets.Stations.{kept}
use Rattle.layer_tests.proofs.packet.station.Station.confirm_interrupt.Goals as goal

pub invariant_of-self : goal.invariant_of-self
invariant_of-self c =
    kept c.self.inside c.confirm_interrupt.new.self c.args.channel Confirming c.self.invariant c.confirm_interrupt.ensures.layer c.confirm_interrupt.ensures.most c.confirm_interrupt.ensures.held
