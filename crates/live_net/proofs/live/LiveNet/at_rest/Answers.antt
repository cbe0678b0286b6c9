use Rattle.line_sim.proofs.Resting.{nothing_missing}
use Rattle.live_laws.specs.Registers.{on}
use Rattle.live_net.proofs.live.LiveNet.at_rest.Goals as goal

pub returns-clause-nothing_missing : goal.returns-clause-nothing_missing
returns-clause-nothing_missing g c = rw (← c.self.view_is) (λ register between f rests.
    nothing_missing g.L.Line.service (on register c.self.inside.nodes) between.any f c.is_at_rest.result c.is_at_rest.ensures rests)
