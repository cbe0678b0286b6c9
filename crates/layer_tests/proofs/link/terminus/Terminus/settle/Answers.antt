use Rattle.flow_window.proofs.Weights.{balances_same}
use Rattle.layer_tests.proofs.Links.Stations.{still_terminus}
use Rattle.layer_tests.proofs.link.terminus.Terminus.settle.Goals as goal

pub invariant_of-self : goal.invariant_of-self
invariant_of-self c =
    still_terminus c.self.inside c.settle.new.self c.settle.new.pool c.self.invariant
    (rw (c.settle.ensures.pool, c.settle.ensures.held) (balances_same c.self.inside.pool c.self.inside.end.held))
    c.settle.ensures.most c.settle.ensures.k
    c.settle.ensures.info
