use Rattle.line_sim.proofs.Resting.{delivered}
use Rattle.line_sim.proofs.Receipts.{taken_beyond}
use Rattle.live_laws.specs.Registers.{on}
use Rattle.live_net.proofs.live.LiveNet.confirmed.Goals as goal

pub returns-clause-delivered : goal.returns-clause-delivered
returns-clause-delivered g c = rw (← c.self.view_is) (λ register between f says.
    delivered g.L.Line.service (on register c.self.inside.nodes) c.args.node c.args.channel between.any f c.confirmed.result c.confirmed.ensures says)

pub returns-clause-taken : goal.returns-clause-taken
returns-clause-taken g c = rw (← c.self.view_is) (λ register between f says.
    taken_beyond g.L.Line.service (on register c.self.inside.nodes) c.args.node c.args.channel between.any f c.confirmed.result c.confirmed.ensures says)
