use Rattle.std.proofs.lemmas.Grind.{common_steps}
use Rattle.std.proofs.Common.{◌≡◌, ◌++◌, ◌∙◌, false, ap, inl, sym, subst, arith, ℕ, List}
use Rattle.std.specs.Prelude.{◌+◌, is_some}
use Rattle.flow_window.proofs.Weights.{balances_then}
use Rattle.packet_layer.specs.Layer.{next_packet}
use Rattle.packet_layer.proofs.Flows.{flow_next}
use Rattle.packet_end.specs.Params.{info_of}
use Rattle.packet_end.specs.Pooled.{PooledEnd, share_of}
use Rattle.packet_end.specs.PacketEnd.{PacketEnd}
use Rattle.packet_layer.proofs.Unsent.{next_none}
use Rattle.packet_end.proofs.Offering.{no_packet}
use Rattle.packet_end.proofs.Pools.{served, serves_after, line_holds, lent_holds, line_room, layer_holds, layer_balanced, link_steps}
use Rattle.packet_layer.specs.Events.{IsHeard}
use Rattle.packet_end.proofs.Short.{next_short}
use Rattle.packet_end.proofs.Waits.{others_agree, next_alike}
use Rattle.flow_window.specs.Pool.{Balances}
use Rattle.line_end.specs.Held.{LineEnd}
use Rattle.packet_end.proofs.pooled.PooledEnd.offer_next.Goals as goal

pub next_packet-requires : goal.next_packet-requires
next_packet-requires c = record {
  holds = layer_holds c.args.pool.now c.self.inside.line.value c.self.inside.layer
      (served c.self.inside c.args.self.now c.args.pool.now c.self.view_is c.requires);
}

pub offer-requires-clause-holds : goal.offer-requires-clause-holds
offer-requires-clause-holds c =
    let a = c.self.inside in
    let x = c.args.self.now in
    let new = c.next_packet.new.self in
    let same = ap (λ n. a.line.value.end.link.k + n + 1) c.next_packet.ensures.most ∙ ap (λ (x : PooledEnd). x.share) c.self.view_is in
    lent_holds c.next_packet.new.pool a.line.value c.deref_mut.ensures.value
    (line_holds c.next_packet.new.pool a.line.value new
    (serves_after c.args.pool.now c.next_packet.new.pool x.held (a.line.value.held ++ new.held) x.share
    (share_of a.line.value.end new.layer) x.info a.line.value.end.link.info c.requires
    (layer_balanced a x c.args.pool.now c.next_packet.new.pool new c.self.view_is c.next_packet.ensures.pool) same
    (ap (λ (x : PooledEnd). x.info) c.self.view_is)))

pub offer-requires-clause-packet : goal.offer-requires-clause-packet
offer-requires-clause-packet c =
    let l = c.self.inside.layer.layer in
    let says = sym c.next_packet.ensures.said ∙ c.if-not-next_packet.false in
    let value = c.as_slice-packet.ensures.value in
    let short =
    next_short l.flow (next_packet l).packet _ c.as_slice-packet.result.now says (λ k. omega (arith, c.type_inv.packet k))
    (value ∙ c.next_packet.ensures.octets)
    (subst (λ (b : List ℕ). IsHeard l.flow (next_packet l).packet b) (sym value) c.next_packet.ensures.heard) in
    let lent = ap (λ (l : LineEnd). l.end.link.info) c.deref_mut.ensures.value in
    omega (arith, short, c.self.invariant.info, lent)

pub offer-requires-clause-size : goal.offer-requires-clause-size
offer-requires-clause-size c =
    let served = served c.self.inside c.args.self.now c.args.pool.now c.self.view_is c.requires in
    let lent = ap (λ (l : LineEnd). l.end.link.info) c.deref_mut.ensures.value in
    let own = ap (λ (x : PooledEnd). x.info) c.self.view_is in
    omega (arith, served.size_least, c.next_packet.ensures.pool.size, lent, own)

pub offer-requires-clause-room : goal.offer-requires-clause-room
offer-requires-clause-room c =
    let a = c.self.inside in
    let x = c.args.self.now in
    let new = c.next_packet.new.self in
    let same = ap (λ n. a.line.value.end.link.k + n + 1) c.next_packet.ensures.most ∙ ap (λ (x : PooledEnd). x.share) c.self.view_is in
    line_room c.next_packet.new.pool a.line.value new
    (serves_after c.args.pool.now c.next_packet.new.pool x.held (a.line.value.held ++ new.held) x.share
    (share_of a.line.value.end new.layer) x.info a.line.value.end.link.info c.requires
    (layer_balanced a x c.args.pool.now c.next_packet.new.pool new c.self.view_is c.next_packet.ensures.pool) same
    (ap (λ (x : PooledEnd). x.info) c.self.view_is))
    c.self.invariant.line c.next_packet.ensures.few

pub returns-clause-pool : goal.returns-clause-pool
returns-clause-pool c =
    let a = c.self.inside in
    let x = c.args.self.now in
    let new = c.next_packet.new.self in
    balances_then c.args.pool.now c.next_packet.new.pool c.offer.new.pool x.held (a.line.value.held ++ new.held)
    (c.offer.new.self.held ++ new.held)
    (layer_balanced a x c.args.pool.now c.next_packet.new.pool new c.self.view_is c.next_packet.ensures.pool)
    (link_steps c.next_packet.new.pool c.offer.new.pool a.line.value c.offer.new.self new
    (subst (λ (l : LineEnd). Balances c.next_packet.new.pool l.held c.offer.new.pool c.offer.new.self.held) c.deref_mut.ensures.value c.offer.ensures.pool))

pub returns-then-not-next_packet-clause-pool : goal.returns-then-not-next_packet-clause-pool
returns-then-not-next_packet-clause-pool c =
    layer_balanced c.self.inside c.args.self.now c.args.pool.now c.next_packet.new.pool c.next_packet.new.self
    c.self.view_is c.next_packet.ensures.pool

pub invariant_of-self : goal.invariant_of-self
invariant_of-self c =
    let e = c.self.inside in
    record {
      line = c.self.invariant.line;
      layer = c.next_packet.ensures.few;
      info = rw c.next_packet.ensures.layer (c.self.invariant.info ∙ ap info_of (sym (flow_next e.layer.layer)));
      agree = rw c.next_packet.ensures.layer
          (others_agree e.layer.layer _ e.timers e.touched c.touch.new.self c.self.invariant.agree
          (λ n out. (sym (c.touch.ensures.others n) ∙ out, next_alike e.layer.layer n)));
      finished = inl c.touch.ensures.touched;
    }

pub invariant_of-self-2 : goal.invariant_of-self-2
invariant_of-self-2 c =
    let e = c.self.inside in
    record {
      line = c.offer.ensures.most;
      layer = c.next_packet.ensures.few;
      info = rw c.next_packet.ensures.layer
          (c.offer.ensures.info ∙ ap (λ (l : LineEnd). l.end.link.info) c.deref_mut.ensures.value ∙ c.self.invariant.info ∙ ap info_of (sym (flow_next e.layer.layer)));
      agree = rw c.next_packet.ensures.layer
          (others_agree e.layer.layer _ e.timers e.touched c.touch.new.self c.self.invariant.agree
          (λ n out. (sym (c.touch.ensures.others n) ∙ out, next_alike e.layer.layer n)));
      finished = inl c.touch.ensures.touched;
    }

pub returns-then-not-next_packet-clause-end : goal.returns-then-not-next_packet-clause-end
returns-then-not-next_packet-clause-end c =
    let a = c.self.inside in
    let silent : is_some (next_packet a.layer.layer).packet ≡ false =
    sym c.next_packet.ensures.said ∙ c.if-not-next_packet.true in
    let layer : c.next_packet.new.self.layer ≡ a.layer.layer =
    c.next_packet.ensures.layer ∙ next_none a.layer.layer silent in
    let most = ap (λ n. a.line.value.end.link.k + n + 1) c.next_packet.ensures.most in
    (λ i. record {
      end = record { line = a.line.value.end; layer = layer i; timers = a.timers; notes = a.notes };
      held = a.line.value.held ++ c.next_packet.new.self.held;
      share = most i;
      info = a.line.value.end.link.info;
    })
    ∙ ap (λ (x : PooledEnd). record x { held = a.line.value.held ++ c.next_packet.new.self.held }) c.self.view_is
    ∙ ap (λ (e : PacketEnd). record c.args.self.now { end = e; held = a.line.value.held ++ c.next_packet.new.self.held })
    (sym (no_packet 1 c.args.self.now.end (ap (λ (x : PooledEnd). is_some (next_packet x.end.layer).packet) (sym c.self.view_is) ∙ silent)))

pub returns-clause-within : goal.returns-clause-within
returns-clause-within c = grind (arith, common_steps)

pub returns-then-not-can_offer-clause-within : goal.returns-then-not-can_offer-clause-within
returns-then-not-can_offer-clause-within c = grind (arith, common_steps)

pub returns-then-not-next_packet-clause-within : goal.returns-then-not-next_packet-clause-within
returns-then-not-next_packet-clause-within c = grind (arith, common_steps)
