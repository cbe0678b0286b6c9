use Rattle.packet_end.proofs.Owned.{serves}
use Rattle.packet_end.proofs.end.PacketEnd.front.Goals as goal

pub front-requires : goal.front-requires
front-requires c = (serves c.self.inside c.self.invariant).holds
