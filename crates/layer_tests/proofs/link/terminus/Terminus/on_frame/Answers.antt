use Rattle.layer_tests.proofs.Links.Stations.{still_terminus}
use Rattle.layer_tests.proofs.link.terminus.Terminus.on_frame.Goals as goal

pub invariant_of-self : goal.invariant_of-self
invariant_of-self c = still_terminus c.self.inside c.on_frame.new.self c.on_frame.new.pool c.self.invariant c.on_frame.ensures.pool c.on_frame.ensures.most c.on_frame.ensures.k
    c.on_frame.ensures.info
