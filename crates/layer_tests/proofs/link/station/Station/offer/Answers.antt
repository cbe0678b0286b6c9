use Rattle.layer_tests.proofs.Links.Stations.{has_room}
use Rattle.layer_tests.proofs.link.station.Station.offer.Goals as goal

pub offer-requires-clause-room : goal.offer-requires-clause-room
offer-requires-clause-room c =
    has_room c.self.inside.pool c.self.inside.link c.self.invariant.pool c.self.invariant.queue
