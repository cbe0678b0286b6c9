use Rattle.packet_end.proofs.Pools.{served, line_holds, lent_holds}
use Rattle.packet_end.proofs.pooled.PooledEnd.settle.Goals as goal

pub settle-requires-clause-holds : goal.settle-requires-clause-holds
settle-requires-clause-holds c =
    lent_holds c.args.pool.now c.self.inside.line.value c.deref_mut.ensures.value
    (line_holds c.args.pool.now c.self.inside.line.value c.self.inside.layer
    (served c.self.inside c.args.self.now c.args.pool.now c.self.view_is c.requires))
