use Rattle.std.proofs.lemmas.Grind.{common_steps}
use Rattle.std.proofs.Common.{◌++◌, ◌∙◌, ap, inl, sym, arith}
use Rattle.std.specs.Prelude.{◌+◌}
use Rattle.flow_window.proofs.Weights.{balances_then}
use Rattle.packet_layer.specs.Held.{Layer, most_held}
use Rattle.packet_layer.proofs.Flows.{flow_on_octets}
use Rattle.packet_end.specs.Params.{info_of}
use Rattle.packet_end.specs.Pooled.{PooledEnd, share_of}
use Rattle.packet_end.proofs.Pools.{served, serves_after, line_holds, lent_holds, layer_holds, layer_size, layer_room, line_balanced, layer_balanced}
use Rattle.packet_end.proofs.Waits.{others_agree, octets_apart}
use Rattle.line_end.specs.Held.{LineEnd}
use Rattle.packet_end.proofs.pooled.PooledEnd.on_frame.Goals as goal

pub on_frame-received-requires : goal.on_frame-received-requires
on_frame-received-requires c =
    lent_holds c.args.pool.now c.self.inside.line.value c.deref_mut.ensures.value
    (line_holds c.args.pool.now c.self.inside.line.value c.self.inside.layer
    (served c.self.inside c.args.self.now c.args.pool.now c.self.view_is c.requires.pool))

pub heed-requires-clause-pool : goal.heed-requires-clause-pool
heed-requires-clause-pool c =
    let a = c.self.inside in
    let x = c.args.self.now in
    let new = c.on_frame-received.new.self in
    serves_after c.args.pool.now c.on_frame-received.new.pool x.held (new.held ++ a.layer.held) x.share (share_of new.end a.layer.layer)
    x.info new.end.link.info c.requires.pool (line_balanced a x c.args.pool.now c.on_frame-received.new.pool new c.self.view_is c.deref_mut.ensures.value c.on_frame-received.ensures.pool)
    (ap (λ k. k + most_held a.layer.layer + 1) (c.on_frame-received.ensures.k ∙ ap (λ (l : LineEnd). l.end.link.k) c.deref_mut.ensures.value) ∙ ap (λ (x : PooledEnd). x.share) c.self.view_is)
    (c.on_frame-received.ensures.info ∙ ap (λ (l : LineEnd). l.end.link.info) c.deref_mut.ensures.value ∙ ap (λ (x : PooledEnd). x.info) c.self.view_is)

pub on_packet-requires-clause-holds : goal.on_packet-requires-clause-holds
on_packet-requires-clause-holds c =
    let a = c.self.inside in
    let x = c.args.self.now in
    let b = c.self-2.inside in
    let new = c.on_frame-received.new.self in
    let mid = c.on_frame-received.new.pool in
    let one = serves_after c.args.pool.now mid x.held (new.held ++ a.layer.held) x.share (share_of new.end a.layer.layer)
    x.info new.end.link.info c.requires.pool (line_balanced a x c.args.pool.now mid new c.self.view_is c.deref_mut.ensures.value c.on_frame-received.ensures.pool)
    (ap (λ k. k + most_held a.layer.layer + 1) (c.on_frame-received.ensures.k ∙ ap (λ (l : LineEnd). l.end.link.k) c.deref_mut.ensures.value) ∙ ap (λ (x : PooledEnd). x.share) c.self.view_is)
    (c.on_frame-received.ensures.info ∙ ap (λ (l : LineEnd). l.end.link.info) c.deref_mut.ensures.value ∙ ap (λ (x : PooledEnd). x.info) c.self.view_is) in
    let two = serves_after mid c.heed.new.pool (new.held ++ a.layer.held) c.heed.new.self.held (share_of new.end a.layer.layer)
    c.heed.new.self.share new.end.link.info c.heed.new.self.info one c.heed.ensures.pool
    (ap (λ (e : PooledEnd). e.share) c.heed.ensures.end) (ap (λ (e : PooledEnd). e.info) c.heed.ensures.end) in
    layer_holds c.heed.new.pool b.line.value b.layer (served b c.heed.new.self c.heed.new.pool c.self-2.view_is two)

pub on_packet-requires-clause-room : goal.on_packet-requires-clause-room
on_packet-requires-clause-room c =
    let a = c.self.inside in
    let x = c.args.self.now in
    let b = c.self-2.inside in
    let new = c.on_frame-received.new.self in
    let mid = c.on_frame-received.new.pool in
    let one = serves_after c.args.pool.now mid x.held (new.held ++ a.layer.held) x.share (share_of new.end a.layer.layer)
    x.info new.end.link.info c.requires.pool (line_balanced a x c.args.pool.now mid new c.self.view_is c.deref_mut.ensures.value c.on_frame-received.ensures.pool)
    (ap (λ k. k + most_held a.layer.layer + 1) (c.on_frame-received.ensures.k ∙ ap (λ (l : LineEnd). l.end.link.k) c.deref_mut.ensures.value) ∙ ap (λ (x : PooledEnd). x.share) c.self.view_is)
    (c.on_frame-received.ensures.info ∙ ap (λ (l : LineEnd). l.end.link.info) c.deref_mut.ensures.value ∙ ap (λ (x : PooledEnd). x.info) c.self.view_is) in
    let two = serves_after mid c.heed.new.pool (new.held ++ a.layer.held) c.heed.new.self.held (share_of new.end a.layer.layer)
    c.heed.new.self.share new.end.link.info c.heed.new.self.info one c.heed.ensures.pool
    (ap (λ (e : PooledEnd). e.share) c.heed.ensures.end) (ap (λ (e : PooledEnd). e.info) c.heed.ensures.end) in
    layer_room c.heed.new.pool b.line.value b.layer (served b c.heed.new.self c.heed.new.pool c.self-2.view_is two) c.self-2.invariant.line

pub on_packet-requires-clause-size : goal.on_packet-requires-clause-size
on_packet-requires-clause-size c =
    let a = c.self.inside in
    let x = c.args.self.now in
    let b = c.self-2.inside in
    let new = c.on_frame-received.new.self in
    let mid = c.on_frame-received.new.pool in
    let one = serves_after c.args.pool.now mid x.held (new.held ++ a.layer.held) x.share (share_of new.end a.layer.layer)
    x.info new.end.link.info c.requires.pool
    (line_balanced a x c.args.pool.now mid new c.self.view_is c.deref_mut.ensures.value c.on_frame-received.ensures.pool)
    (ap (λ k. k + most_held a.layer.layer + 1) (c.on_frame-received.ensures.k ∙ ap (λ (l : LineEnd). l.end.link.k) c.deref_mut.ensures.value) ∙ ap (λ (x : PooledEnd). x.share) c.self.view_is)
    (c.on_frame-received.ensures.info ∙ ap (λ (l : LineEnd). l.end.link.info) c.deref_mut.ensures.value ∙ ap (λ (x : PooledEnd). x.info) c.self.view_is) in
    let two = serves_after mid c.heed.new.pool (new.held ++ a.layer.held) c.heed.new.self.held (share_of new.end a.layer.layer)
    c.heed.new.self.share new.end.link.info c.heed.new.self.info one c.heed.ensures.pool
    (ap (λ (e : PooledEnd). e.share) c.heed.ensures.end) (ap (λ (e : PooledEnd). e.info) c.heed.ensures.end) in
    layer_size c.heed.new.pool b.line.value b.layer (served b c.heed.new.self c.heed.new.pool c.self-2.view_is two)
    c.self-2.invariant.info

pub invariant_of-self-in-Some : goal.invariant_of-self-in-Some
invariant_of-self-in-Some c =
    let e = c.self-2.inside in
    let gathered = ap (λ (l : Layer). l.layer) c.gather.ensures.layer in
    record {
      line = c.self-2.invariant.line;
      layer = rw c.gather.ensures.layer c.on_packet.ensures.few;
      info = rw (c.gather.ensures.layer, c.on_packet.ensures.layer)
          (c.self-2.invariant.info ∙ ap info_of (sym (flow_on_octets e.layer.layer c.in-Some.packet.now)));
      agree = rw (c.gather.ensures.layer, c.on_packet.ensures.layer)
          (others_agree e.layer.layer _ e.timers e.touched c.insert_named.new.self c.self-2.invariant.agree
          (λ n out. let apart = c.insert_named.ensures.others n out in (apart.0, octets_apart e.layer.layer c.in-Some.packet.now n apart.1)));
      finished = inl c.insert_named.ensures.touched;
    }

pub returns-in-Some-clause-pool : goal.returns-in-Some-clause-pool
returns-in-Some-clause-pool c =
    let a = c.self.inside in
    let x = c.args.self.now in
    let b = c.self-2.inside in
    let new = c.on_frame-received.new.self in
    let mid = c.on_frame-received.new.pool in
    rw (ap (λ (l : Layer). l.held) c.gather.ensures.layer)
    (balances_then c.args.pool.now mid c.on_packet.new.pool x.held (new.held ++ a.layer.held) (b.line.value.held ++ c.on_packet.new.self.held)
    (line_balanced a x c.args.pool.now mid new c.self.view_is c.deref_mut.ensures.value c.on_frame-received.ensures.pool)
    (balances_then mid c.heed.new.pool c.on_packet.new.pool (new.held ++ a.layer.held) c.heed.new.self.held (b.line.value.held ++ c.on_packet.new.self.held)
    c.heed.ensures.pool
    (layer_balanced b c.heed.new.self c.heed.new.pool c.on_packet.new.pool c.on_packet.new.self c.self-2.view_is c.on_packet.ensures.pool)))

pub returns-in_default-clause-pool : goal.returns-in_default-clause-pool
returns-in_default-clause-pool c =
    let a = c.self.inside in
    let x = c.args.self.now in
    let new = c.on_frame-received.new.self in
    let mid = c.on_frame-received.new.pool in
    balances_then c.args.pool.now mid c.heed.new.pool x.held (new.held ++ a.layer.held) c.heed.new.self.held
    (line_balanced a x c.args.pool.now mid new c.self.view_is c.deref_mut.ensures.value c.on_frame-received.ensures.pool) c.heed.ensures.pool

pub returns-in-Some-clause-within : goal.returns-in-Some-clause-within
returns-in-Some-clause-within c = grind (arith, common_steps)
