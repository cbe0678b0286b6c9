use Rattle.line_end.proofs.Steps.{sends_relink}
use Rattle.layer_tests.proofs.Links.Stations.{still_station}
use Rattle.layer_tests.proofs.link.station.Station.relink.Goals as goal

pub invariant_of-self : goal.invariant_of-self
invariant_of-self c =
    still_station c.self.inside c.relink.new.self c.relink.new.pool c.self.invariant
    (rw c.relink.ensures.link (sends_relink c.self.inside.link.link).keeps) c.relink.ensures.pool c.relink.ensures.tight
