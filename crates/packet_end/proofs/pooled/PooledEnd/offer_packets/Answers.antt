use Rattle.std.proofs.Common.{◌≡◌, ◌∙◌, ◌+◌, refl, ap, sym, subst, arith}
use Rattle.flow_window.proofs.Weights.{balances_same, balances_then}
use Rattle.packet_end.specs.Pooled.{PooledEnd}
use Rattle.packet_end.specs.PacketEnd.{PacketEnd, offered, HasOfferedAll}
use Rattle.packet_end.proofs.Pools.{serves_after}
use Rattle.packet_end.proofs.Offering.{none_offered, offered_notes, may_before, may_counted, left_after, left_at_first, left_more, left_none, left_over, longer_offered, none_left}
use Rattle.packet_end.proofs.pooled.PooledEnd.offer_packets.Goals as goal

pub loop-count-init : goal.loop-count-init
loop-count-init c = record {
  left = left_at_first c.args.self.now.end;
  queued = omega arith;
  notes = refl;
  begins = λ _. refl;
  some = λ count. absurd (omega (arith, count));
  most = λ count. absurd (omega (arith, count));
  pool = balances_same c.args.pool.now c.args.self.now.held;
  share = refl;
  info = refl;
  within = λ count. absurd (omega (arith, count));
}

pub loop-count-preserved : goal.loop-count-preserved
loop-count-preserved c =
    let e = c.loop-count.self.end in
    let may = sym c.offer_next.ensures.said ∙ c.if-not-offer_next.false in
    let end : c.offer_next.new.self.end ≡ offered 1 e = ap (λ (x : PooledEnd). x.end) c.offer_next.ensures.end in
    record {
      left = ap (left_after (c.loop-count.count + 1)) end ∙ left_more c.loop-count.count e c.loop-count-test.true may ∙ c.loop-count.invariant.left;
      queued = rw end (longer_offered e c.loop-count.count may c.loop-count.invariant.queued);
      notes = ap (λ (e : PacketEnd). e.notes) end ∙ offered_notes e ∙ c.loop-count.invariant.notes;
      begins = λ none. absurd (omega (arith, none));
      some = λ _. may_before c.loop-count.count e c.args.self.now.end c.loop-count.invariant.begins c.loop-count.invariant.some may;
      most = λ _. c.offer_next.ensures.most;
      pool = balances_then c.args.pool.now c.loop-count.pool c.offer_next.new.pool c.args.self.now.held
          c.loop-count.self.held c.offer_next.new.self.held c.loop-count.invariant.pool c.offer_next.ensures.pool;
      share = ap (λ (x : PooledEnd). x.share) c.offer_next.ensures.end ∙ c.loop-count.invariant.share;
      info = ap (λ (x : PooledEnd). x.info) c.offer_next.ensures.end ∙ c.loop-count.invariant.info;
      within = λ _. c.offer_next.ensures.within;
    }

pub offer_next-requires : goal.offer_next-requires
offer_next-requires c =
    serves_after c.args.pool.now c.loop-count.pool c.args.self.now.held c.loop-count.self.held c.args.self.now.share
    c.loop-count.self.share c.args.self.now.info c.loop-count.self.info c.requires c.loop-count.invariant.pool
    c.loop-count.invariant.share c.loop-count.invariant.info

pub returns-then-not-offer_next-clause-offered : goal.returns-then-not-offer_next-clause-offered
returns-then-not-offer_next-clause-offered c =
    may_counted c.loop-count.count c.loop-count.self.end c.args.self.now.end c.loop-count.invariant.begins
    c.loop-count.invariant.some (sym c.offer_next.ensures.said ∙ c.if-not-offer_next.true)

pub returns-then-not-offer_next-clause-end : goal.returns-then-not-offer_next-clause-end
returns-then-not-offer_next-clause-end c =
    let e = c.loop-count.self.end in
    let none = sym c.offer_next.ensures.said ∙ c.if-not-offer_next.true in
    let end = none_offered 1 e none ∙ sym (left_none c.loop-count.count e none) ∙ c.loop-count.invariant.left in
    c.offer_next.ensures.end
    ∙ (λ i. record { end = end i; held = c.offer_next.new.self.held; share = c.loop-count.invariant.share i; info = c.loop-count.invariant.info i })

pub returns-then-not-offer_next-clause-all_offered : goal.returns-then-not-offer_next-clause-all_offered
returns-then-not-offer_next-clause-all_offered c =
    let e = c.loop-count.self.end in
    let none = sym c.offer_next.ensures.said ∙ c.if-not-offer_next.true in
    let same = ap (λ (x : PooledEnd). x.end) c.offer_next.ensures.end ∙ none_offered 1 e none in
    subst (λ (x : PacketEnd). HasOfferedAll x) (sym same) (none_left e none)

pub returns-clause-offered : goal.returns-clause-offered
returns-clause-offered c = sym (c.loop-count.invariant.some (omega (arith, c.loop-count-test.false)))

pub returns-clause-end : goal.returns-clause-end
returns-clause-end c =
    let end = sym (left_over c.loop-count.count c.loop-count.self.end c.loop-count-test.false) ∙ c.loop-count.invariant.left in
    λ i. record { end = end i; held = c.loop-count.self.held; share = c.loop-count.invariant.share i; info = c.loop-count.invariant.info i }

pub returns-clause-all_offered : goal.returns-clause-all_offered
returns-clause-all_offered c =
    let i = c.loop-count.invariant in
    let most = i.most (omega (arith, c.loop-count-test.false)) in
    λ up room. absurd (omega (arith, c.loop-count-test.false, i.queued, most, room))

pub returns-clause-within : goal.returns-clause-within
returns-clause-within c = c.loop-count.invariant.within (omega (arith, c.loop-count-test.false))
