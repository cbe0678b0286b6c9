use Rattle.line_end.proofs.Steps.{sends_on_t1}
use Rattle.layer_tests.proofs.Links.Stations.{still_station}
use Rattle.layer_tests.proofs.link.station.Station.on_t1.Goals as goal

pub invariant_of-self : goal.invariant_of-self
invariant_of-self c =
    still_station c.self.inside c.on_t1.new.self c.on_t1.new.pool c.self.invariant
    (rw c.on_t1.ensures.link (sends_on_t1 c.self.inside.link.link).keeps) c.on_t1.ensures.pool c.on_t1.ensures.tight
