use Rattle.line_end.proofs.Steps.{sends_on_octets}
use Rattle.layer_tests.proofs.Links.Stations.{still_station}
use Rattle.layer_tests.proofs.link.station.Station.on_frame.Goals as goal

pub invariant_of-self : goal.invariant_of-self
invariant_of-self c =
    still_station c.self.inside c.on_frame.new.self c.on_frame.new.pool c.self.invariant
    (rw c.on_frame.ensures.link (sends_on_octets c.self.inside.link.link c.args.bytes.now).keeps)
    c.on_frame.ensures.pool c.on_frame.ensures.tight
