use Rattle.std.proofs.Common.{sym, subst}
use Rattle.flow_window.specs.Pool.{Holds}
use Rattle.packet_end.specs.Pooled.{PooledEnd}
use Rattle.packet_end.proofs.Pools.{layer_part}
use Rattle.packet_end.proofs.pooled.PooledEnd.front.Goals as goal

pub front-requires : goal.front-requires
front-requires c =
    layer_part c.args.pool.now c.self.inside.line.value c.self.inside.layer
    (subst (λ (x : PooledEnd). Holds c.args.pool.now x.held) (sym c.self.view_is) c.requires)
