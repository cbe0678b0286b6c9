use Rattle.std.specs.Prelude.{false}
use Rattle.packet_channel.specs.Channel.Request.{Stopping}
use Rattle.layer_tests.proofs.Packets.Stations.{kept}
use Rattle.layer_tests.proofs.packet.station.Station.go.Goals as goal

pub invariant_of-self : goal.invariant_of-self
invariant_of-self c =
    kept c.self.inside c.go.new.self c.args.channel (Stopping false) c.self.invariant c.go.ensures.layer c.go.ensures.most c.go.ensures.held
