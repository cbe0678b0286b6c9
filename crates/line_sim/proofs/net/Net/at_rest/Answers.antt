use Rattle.line_sim.proofs.Resting.{nothing_missing}
use Rattle.line_sim.proofs.net.Net.at_rest.Goals as goal

pub returns-clause-nothing_missing : goal.returns-clause-nothing_missing
returns-clause-nothing_missing g c = λ f rests.
    rw (← c.self.view_is) (nothing_missing g.L.Line.service _ c.self.invariant.between.any f c.is_at_rest.result c.is_at_rest.ensures rests)
