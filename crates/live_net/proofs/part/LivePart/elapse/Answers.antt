use Rattle.net_nodes.specs.Carrying.{blind}
use Rattle.live_laws.proofs.Lives.{live_elapsed}
use Rattle.live_net.proofs.part.LivePart.elapse.Goals as goal

pub invariant_of-self : goal.invariant_of-self
invariant_of-self g c =
    (rw c.elapse.ensures (live_elapsed (blind g.L.Line.service) _ c.args.ticks c.self.invariant.0), c.self.invariant.1)
