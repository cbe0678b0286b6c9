use Rattle.std.proofs.Common.{ap}
use Rattle.packet_end.specs.Pooled.{PooledEnd}
use Rattle.packet_end.proofs.Owned.{serves, after}
use Rattle.packet_end.proofs.end.PacketEnd.on_frame.Goals as goal

pub on_frame-requires-clause-pool : goal.on_frame-requires-clause-pool
on_frame-requires-clause-pool c = serves c.self.inside c.self.invariant

pub invariant_of-self : goal.invariant_of-self
invariant_of-self c =
    after c.self.inside c.on_frame.new.self c.on_frame.new.pool c.self.invariant c.on_frame.ensures.pool
    (ap (λ (e : PooledEnd). e.share) c.on_frame.ensures.end) (ap (λ (e : PooledEnd). e.info) c.on_frame.ensures.end)
