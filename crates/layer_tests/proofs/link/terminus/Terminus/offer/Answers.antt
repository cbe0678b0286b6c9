use Rattle.layer_tests.proofs.Links.Stations.{still_terminus, has_buffer}
use Rattle.layer_tests.proofs.link.terminus.Terminus.offer.Goals as goal

pub invariant_of-self : goal.invariant_of-self
invariant_of-self c = still_terminus c.self.inside c.offer.new.self c.offer.new.pool c.self.invariant c.offer.ensures.pool c.offer.ensures.most c.offer.ensures.k
    c.offer.ensures.info

pub offer-requires-clause-room : goal.offer-requires-clause-room
offer-requires-clause-room c = has_buffer c.self.inside c.self.invariant
