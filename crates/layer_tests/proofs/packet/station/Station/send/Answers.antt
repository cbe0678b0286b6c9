use Rattle.layer_tests.proofs.Packets.Stations.{has_room}
use Rattle.layer_tests.proofs.packet.station.Station.send.Goals as goal

pub send-requires-clause-room : goal.send-requires-clause-room
send-requires-clause-room c = has_room c.self.inside c.self.invariant
