use Rattle.layer_tests.proofs.Packets.Stations.{has_room}
use Rattle.layer_tests.proofs.packet.station.Station.on_packet.Goals as goal

pub on_packet-requires-clause-room : goal.on_packet-requires-clause-room
on_packet-requires-clause-room c = has_room c.self.inside c.self.invariant
