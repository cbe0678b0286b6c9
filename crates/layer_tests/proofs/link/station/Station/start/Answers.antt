use Rattle.line_end.proofs.Steps.{sends_relink}
use Rattle.layer_tests.proofs.Links.Stations.{still_station}
use Rattle.layer_tests.proofs.link.station.Station.start.Goals as goal

pub invariant_of-self : goal.invariant_of-self
invariant_of-self c =
    still_station c.self.inside c.start.new.self c.start.new.pool c.self.invariant
    (rw c.start.ensures.link (sends_relink c.self.inside.link.link).keeps) c.start.ensures.pool c.start.ensures.tight
