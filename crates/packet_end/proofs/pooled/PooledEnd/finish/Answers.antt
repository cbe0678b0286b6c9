use Rattle.std.proofs.Common.{◌≡◌, ◌++◌, sym, subst}
use Rattle.packet_end.specs.PacketEnd.{finished}
use Rattle.packet_end.specs.Pooled.{PooledEnd, share_of}
use Rattle.packet_end.specs.PooledView.{end_of}
use Rattle.packet_end.specs.Sending.{EndsWhole}
use Rattle.packet_end.proofs.Ended.{ended, finished_once}
use Rattle.packet_end.proofs.Sending.{ended_whole}
use Rattle.packet_end.proofs.pooled.PooledEnd.finish.Goals as goal

pub returns-in-Nothing-clause-end : goal.returns-in-Nothing-clause-end
returns-in-Nothing-clause-end c =
    let a = c.self.inside in
    subst (λ (x : PooledEnd). x ≡ record x { end = finished x.end }) c.self.view_is
    (λ i. record {
      end = sym (finished_once (end_of a) (ended a.touched (end_of a) c.in-Nothing.is c.self.invariant.finished)) i;
      held = a.line.value.held ++ a.layer.held;
      share = share_of a.line.value.end a.layer.layer;
      info = a.line.value.end.link.info;
    })

pub returns-in-Nothing-clause-frames : goal.returns-in-Nothing-clause-frames
returns-in-Nothing-clause-frames c =
    let a = c.self.inside in
    subst (λ (x : PooledEnd). EndsWhole x.end x.end) c.self.view_is
    (ended_whole (end_of a) (ended a.touched (end_of a) c.in-Nothing.is c.self.invariant.finished))
