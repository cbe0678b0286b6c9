use Rattle.std.proofs.Common.{ap}
use Rattle.packet_end.specs.Pooled.{PooledEnd}
use Rattle.packet_end.proofs.Owned.{serves, after}
use Rattle.packet_end.proofs.end.PacketEnd.ask.Goals as goal

pub ask-requires : goal.ask-requires
ask-requires c = serves c.self.inside c.self.invariant

pub invariant_of-self : goal.invariant_of-self
invariant_of-self c =
    after c.self.inside c.ask.new.self c.ask.new.pool c.self.invariant c.ask.ensures.pool
    (ap (λ (e : PooledEnd). e.share) c.ask.ensures.end) (ap (λ (e : PooledEnd). e.info) c.ask.ensures.end)
