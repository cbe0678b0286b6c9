use Rattle.std.proofs.Common.{◌≡◌, ◌+◌, ℕ, [], ◌∷◌, ◌++◌, length, replicate, Option, List, None, ap, ◌∙◌, sym, refl, arith}
use Rattle.std.proofs.lemmas.List.{length-replicate, replicate_more}
use Rattle.std.proofs.lemmas.List.Elements.{All-same, All-replicate}
use Rattle.flow_window.specs.Pool.{weight_from}
use Rattle.flow_window.specs.Slot.{Slot}
use Rattle.flow_window.specs.PoolView.{contents, listed, spare_from}
use Rattle.flow_window.proofs.Pools.{listed_append, spare_more, none_in_use, contents_new}
use Rattle.flow_window.proofs.pool.Pool.new.Goals as goal

pub loop-number-init : goal.loop-number-init
loop-number-init c = record {
  slots = c.in_ok-slots.ensures.items;
  spare = λ w. ap (listed w) c.in_ok-spare.ensures.items;
  room = c.in_ok-spare.ensures.capacity;
}

pub loop-number-preserved : goal.loop-number-preserved
loop-number-preserved c =
    let n = c.loop-number.number in
    let slot : Slot = record { size = c.args.size; content = None } in
    let none : Option (List ℕ) = None in
    let before = c.loop-number.invariant in
    record {
      slots =
          c.in_ok-push.ensures.items ∙ ap (λ (s : Slot). c.loop-number.slots.items ++ s ∷ []) c.in_ok-new.ensures ∙
          ap (λ slots. slots ++ slot ∷ []) before.slots ∙ replicate_more n slot;
      spare = λ w.
          let last = ap (listed w) c.in_ok-push-2.ensures.items ∙
          listed_append w c.loop-number.spare.items (n ∷ []) in
          let many = length-replicate n none in
          let place : 0 + length (replicate n none) ≡ n = omega (arith, many) in
          let at = ap w place in
          let more = ap (spare_from w 0) (sym (replicate_more n none)) ∙ spare_more w 0 (replicate n none) in
          let old = before.spare w in
          omega (arith, last, at, more, old);
      room = omega (arith, before.room, c.in_ok-push-2.ensures.capacity);
    }

pub invariant_of-result : goal.invariant_of-result
invariant_of-result c =
    let n = c.loop-number.number in
    let slot : Slot = record { size = c.args.size; content = None } in
    let inv = c.loop-number.invariant in
    let places = ap contents inv.slots ∙ contents_new n c.args.size in
    let many = ap length inv.slots ∙ length-replicate n slot in
    record {
      sizes = All-same (λ (s : Slot). s.size ≡ c.args.size) c.loop-number.slots.items (replicate n slot) inv.slots
          (All-replicate (λ (s : Slot). s.size ≡ c.args.size) n slot refl);
      spare = λ w. inv.spare w ∙ ap (spare_from w 0) (sym places);
      room = omega (arith, many, inv.room, c.loop-number.auto.number-end);
    }

pub returns-clause-map : goal.returns-clause-map
returns-clause-map c =
    let n = c.loop-number.number in
    let inv = c.loop-number.invariant in
    let all : n ≡ c.args.buffers = omega (arith, c.loop-number.auto.number-end, c.loop-number-test.false) in
    let none : Option (List ℕ) = None in
    let places = ap contents inv.slots ∙ contents_new n c.args.size ∙ ap (λ m. replicate m none) all in
    λ i. record { size = c.args.size; places = places i }

pub returns-clause-weights : goal.returns-clause-weights
returns-clause-weights c w =
    let n = c.loop-number.number in
    let inv = c.loop-number.invariant in
    ap (weight_from w 0) (ap contents inv.slots ∙ contents_new n c.args.size) ∙ none_in_use w 0 n
