use Rattle.std.proofs.Common.{ap}
use Rattle.packet_end.specs.Pooled.{PooledEnd}
use Rattle.packet_end.proofs.Owned.{serves, after}
use Rattle.packet_end.proofs.end.PacketEnd.relink.Goals as goal

pub relink-requires-clause-pool : goal.relink-requires-clause-pool
relink-requires-clause-pool c = serves c.self.inside c.self.invariant

pub invariant_of-self : goal.invariant_of-self
invariant_of-self c =
    after c.self.inside c.relink.new.self c.relink.new.pool c.self.invariant c.relink.ensures.pool
    (ap (λ (e : PooledEnd). e.share) c.relink.ensures.end) (ap (λ (e : PooledEnd). e.info) c.relink.ensures.end)
