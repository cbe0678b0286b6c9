use Rattle.line_sim.proofs.Resting.{delivered}
use Rattle.line_sim.proofs.Receipts.{taken_beyond}
use Rattle.line_sim.proofs.net.Net.confirmed.Goals as goal

pub returns-clause-delivered : goal.returns-clause-delivered
returns-clause-delivered g c = λ f says.
    rw (← c.self.view_is) (delivered g.L.Line.service _ c.args.node c.args.channel c.self.invariant.between.any f c.confirmed.result c.confirmed.ensures says)

pub returns-clause-taken : goal.returns-clause-taken
returns-clause-taken g c = λ f says.
    rw (← c.self.view_is) (taken_beyond g.L.Line.service _ c.args.node c.args.channel c.self.invariant.between.any f c.confirmed.result c.confirmed.ensures says)
