use Rattle.std.proofs.Common.{◌≡◌, ◌≤◌, ◌∙◌, ap, sym, subst, length, inr}
use Rattle.lapb.specs.Machine.{settle}
use Rattle.packet_end.specs.PacketEnd.{PacketEnd, relinked_if_due, settled, all_offered, finished, IsFinished, HasOfferedAll, KeepsNothingBack}
use Rattle.packet_end.specs.Pooled.{PooledEnd}
use Rattle.packet_end.specs.PooledView.{end_of}
use Rattle.packet_end.specs.Sending.{EndsWhole}
use Rattle.packet_end.proofs.Offering.{settled_all_offered, none_due}
use Rattle.packet_end.proofs.Ended.{settles_once}
use Rattle.packet_end.proofs.Pools.{serves_after}
use Rattle.packet_end.proofs.Sending.{ends_whole}
use Rattle.packet_end.proofs.pooled.PooledEnd.finish_touched.Goals as goal

pub offer_packets-requires : goal.offer_packets-requires
offer_packets-requires c =
    let x = c.args.self.now in
    let y = c.relink_if_due.new.self in
    serves_after c.args.pool.now c.relink_if_due.new.pool x.held y.held x.share y.share x.info y.info c.requires.pool
    c.relink_if_due.ensures.pool (ap (λ (x : PooledEnd). x.share) c.relink_if_due.ensures.end)
    (ap (λ (x : PooledEnd). x.info) c.relink_if_due.ensures.end)

pub settle-requires : goal.settle-requires
settle-requires c =
    let x = c.args.self.now in
    let y = c.relink_if_due.new.self in
    let z = c.offer_packets.new.self in
    serves_after c.relink_if_due.new.pool c.offer_packets.new.pool y.held z.held y.share z.share y.info z.info
    (serves_after c.args.pool.now c.relink_if_due.new.pool x.held y.held x.share y.share x.info y.info c.requires.pool
    c.relink_if_due.ensures.pool (ap (λ (x : PooledEnd). x.share) c.relink_if_due.ensures.end)
    (ap (λ (x : PooledEnd). x.info) c.relink_if_due.ensures.end))
    c.offer_packets.ensures.pool (ap (λ (x : PooledEnd). x.share) c.offer_packets.ensures.end)
    (ap (λ (x : PooledEnd). x.info) c.offer_packets.ensures.end)

pub invariant_of-self : goal.invariant_of-self
invariant_of-self c =
    let now : end_of c.self.inside ≡ c.settle.new.self.end = ap (λ (x : PooledEnd). x.end) c.self.view_is in
    let settles : c.settle.new.self.end ≡ settled c.offer_packets.new.self.end = ap (λ (x : PooledEnd). x.end) c.settle.ensures.end in
    let offered : c.offer_packets.new.self.end ≡ all_offered (relinked_if_due c.args.self.now.end) =
    ap (λ (x : PooledEnd). x.end) c.offer_packets.ensures.end
    ∙ ap (λ (x : PooledEnd). all_offered x.end) c.relink_if_due.ensures.end in
    let is : IsFinished c.settle.new.self.end = record {
      none_due =
          ap (λ (e : PacketEnd). e.layer.relink) settles ∙ ap (λ (e : PacketEnd). e.layer.relink) offered
          ∙ none_due c.args.self.now.end;
      kept = record {
        offered =
            subst (λ (e : PacketEnd). HasOfferedAll e) (sym settles)
            (settled_all_offered c.offer_packets.new.self.end c.offer_packets.ensures.all_offered);
        sent = c.settle.ensures.all_sent;
      };
      timers = c.settle.ensures.timers;
      settled = settles_once c.offer_packets.new.self.end c.settle.new.self.end settles;
    } in
    let ends = subst (λ (e : PacketEnd). IsFinished e) (sym now) is in
    record {
      line = c.self.invariant.line;
      layer = c.self.invariant.layer;
      info = c.self.invariant.info;
      agree = λ timer is out. ends.timers timer is;
      finished = inr ends;
    }

pub returns-clause-end : goal.returns-clause-end
unfolding finished
returns-clause-end c =
    let offered = c.offer_packets.ensures.end in
    let settles = c.self.view_is ∙ c.settle.ensures.end in
    let end =
    ap (λ (x : PooledEnd). settled x.end) offered
    ∙ ap (λ (x : PooledEnd). settled (all_offered x.end)) c.relink_if_due.ensures.end in
    let share = ap (λ (x : PooledEnd). x.share) offered ∙ ap (λ (x : PooledEnd). x.share) c.relink_if_due.ensures.end in
    let info = ap (λ (x : PooledEnd). x.info) offered ∙ ap (λ (x : PooledEnd). x.info) c.relink_if_due.ensures.end in
    settles ∙ (λ i. record { end = end i; held = c.offer_packets.new.self.held; share = share i; info = info i })
    ∙ ap (λ (x : PooledEnd). record c.args.self.now { end = finished c.args.self.now.end; held = x.held }) (sym settles)

pub returns-clause-nothing_kept_back : goal.returns-clause-nothing_kept_back
returns-clause-nothing_kept_back c =
    subst (λ (e : PacketEnd). KeepsNothingBack e) (sym (ap (λ (x : PooledEnd). x.end) c.self.view_is)) (record {
      offered =
          subst (λ (e : PacketEnd). HasOfferedAll e) (sym (ap (λ (x : PooledEnd). x.end) c.settle.ensures.end))
          (settled_all_offered c.offer_packets.new.self.end c.offer_packets.ensures.all_offered);
      sent = c.settle.ensures.all_sent;
    })

pub returns-clause-frames : goal.returns-clause-frames
unfolding finished
returns-clause-frames c =
    let e = c.args.self.now.end in
    let offered : c.offer_packets.new.self.end ≡ all_offered (relinked_if_due e) =
    ap (λ (x : PooledEnd). x.end) c.offer_packets.ensures.end
    ∙ ap (λ (x : PooledEnd). all_offered x.end) c.relink_if_due.ensures.end in
    subst (λ (x : PacketEnd). EndsWhole e x)
    (sym (ap (λ (x : PooledEnd). x.end) (c.self.view_is ∙ c.settle.ensures.end) ∙ ap (λ (x : PacketEnd). settled x) offered))
    (ends_whole e (subst (λ (x : PacketEnd). length (settle x.line.link).frames ≤ 7) offered c.settle.ensures.few))
