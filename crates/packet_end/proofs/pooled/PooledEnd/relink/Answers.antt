use Rattle.std.proofs.Common.{◌++◌, ◌∙◌, ap}
use Rattle.std.specs.Prelude.{◌+◌}
use Rattle.flow_window.proofs.Weights.{balances_then}
use Rattle.packet_layer.specs.Held.{most_held}
use Rattle.packet_end.specs.Pooled.{PooledEnd, share_of}
use Rattle.packet_end.proofs.Pools.{served, serves_after, line_holds, lent_holds, line_balanced}
use Rattle.line_end.specs.Held.{LineEnd}
use Rattle.packet_end.proofs.pooled.PooledEnd.relink.Goals as goal

pub relink-requires : goal.relink-requires
relink-requires c =
    lent_holds c.args.pool.now c.self.inside.line.value c.deref_mut.ensures.value
    (line_holds c.args.pool.now c.self.inside.line.value c.self.inside.layer
    (served c.self.inside c.args.self.now c.args.pool.now c.self.view_is c.requires.pool))

pub heed-requires-clause-pool : goal.heed-requires-clause-pool
heed-requires-clause-pool c =
    let a = c.self.inside in
    let x = c.args.self.now in
    let new = c.relink.new.self in
    serves_after c.args.pool.now c.relink.new.pool x.held (new.held ++ a.layer.held) x.share (share_of new.end a.layer.layer)
    x.info new.end.link.info c.requires.pool (line_balanced a x c.args.pool.now c.relink.new.pool new c.self.view_is c.deref_mut.ensures.value c.relink.ensures.pool)
    (ap (λ k. k + most_held a.layer.layer + 1) (c.relink.ensures.k ∙ ap (λ (l : LineEnd). l.end.link.k) c.deref_mut.ensures.value) ∙ ap (λ (x : PooledEnd). x.share) c.self.view_is)
    (c.relink.ensures.info ∙ ap (λ (l : LineEnd). l.end.link.info) c.deref_mut.ensures.value ∙ ap (λ (x : PooledEnd). x.info) c.self.view_is)

pub returns-clause-pool : goal.returns-clause-pool
returns-clause-pool c =
    let a = c.self.inside in
    let x = c.args.self.now in
    let new = c.relink.new.self in
    balances_then c.args.pool.now c.relink.new.pool c.heed.new.pool x.held (new.held ++ a.layer.held) c.heed.new.self.held
    (line_balanced a x c.args.pool.now c.relink.new.pool new c.self.view_is c.deref_mut.ensures.value c.relink.ensures.pool) c.heed.ensures.pool
