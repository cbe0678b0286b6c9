use Rattle.std.proofs.Common.{ap}
use Rattle.packet_end.specs.Pooled.{PooledEnd}
use Rattle.packet_end.proofs.Owned.{serves, after}
use Rattle.packet_end.proofs.end.PacketEnd.finish.Goals as goal

pub finish-requires-clause-pool : goal.finish-requires-clause-pool
finish-requires-clause-pool c = serves c.self.inside c.self.invariant

pub invariant_of-self : goal.invariant_of-self
invariant_of-self c =
    after c.self.inside c.finish.new.self c.finish.new.pool c.self.invariant c.finish.ensures.pool
    (ap (λ (e : PooledEnd). e.share) c.finish.ensures.end) (ap (λ (e : PooledEnd). e.info) c.finish.ensures.end)
