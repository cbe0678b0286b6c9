use Rattle.std.proofs.Common.{length, sym, ap, ◌∙◌}
use Rattle.flow_window.proofs.Weights.{balances_same}
use Rattle.line_end.proofs.Steps.{settles}
use Rattle.layer_tests.proofs.Links.Stations.{still_station}
use Rattle.layer_tests.proofs.link.station.Station.settle.Goals as goal

pub invariant_of-self : goal.invariant_of-self
invariant_of-self c =
    still_station c.self.inside c.settle.new.self c.settle.new.pool c.self.invariant
    (rw c.settle.ensures.link (settles c.self.inside.link.link).keeps)
    (rw (c.settle.ensures.pool, c.settle.ensures.link) (balances_same c.self.inside.pool c.self.inside.link.held))
    (rw c.settle.ensures.link (c.self.invariant.pool.tight ∙ ap length (sym (settles c.self.inside.link.link).packets)))
