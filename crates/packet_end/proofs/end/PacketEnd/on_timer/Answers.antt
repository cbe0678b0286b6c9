use Rattle.std.proofs.Common.{ap}
use Rattle.packet_end.specs.Pooled.{PooledEnd}
use Rattle.packet_end.proofs.Owned.{serves, after}
use Rattle.packet_end.proofs.end.PacketEnd.on_timer.Goals as goal

pub on_timer-requires-clause-pool : goal.on_timer-requires-clause-pool
on_timer-requires-clause-pool c = serves c.self.inside c.self.invariant

pub invariant_of-self : goal.invariant_of-self
invariant_of-self c =
    after c.self.inside c.on_timer.new.self c.on_timer.new.pool c.self.invariant c.on_timer.ensures.pool
    (ap (λ (e : PooledEnd). e.share) c.on_timer.ensures.end) (ap (λ (e : PooledEnd). e.info) c.on_timer.ensures.end)
