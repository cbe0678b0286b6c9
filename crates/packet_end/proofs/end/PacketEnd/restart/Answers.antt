use Rattle.std.proofs.Common.{ap, subst, sym}
use Rattle.packet_end.specs.PacketEnd.{PacketEnd, KeepsNothingBack}
use Rattle.packet_end.specs.Pooled.{PooledEnd}
use Rattle.packet_end.proofs.Owned.{serves, after}
use Rattle.packet_end.proofs.Restarting.{restart_keeps}
use Rattle.packet_end.proofs.end.PacketEnd.restart.Goals as goal

pub restart-requires : goal.restart-requires
restart-requires c = serves c.self.inside c.self.invariant

pub invariant_of-self : goal.invariant_of-self
invariant_of-self c =
    after c.self.inside c.restart.new.self c.restart.new.pool c.self.invariant c.restart.ensures.pool
    (ap (λ (e : PooledEnd). e.share) c.restart.ensures.end) (ap (λ (e : PooledEnd). e.info) c.restart.ensures.end)

pub returns-clause-nothing_kept_back : goal.returns-clause-nothing_kept_back
returns-clause-nothing_kept_back c =
    subst (λ (e : PacketEnd). KeepsNothingBack e) (sym (ap (λ (e : PooledEnd). e.end) c.restart.ensures.end))
    (restart_keeps c.self.inside.end.end)
