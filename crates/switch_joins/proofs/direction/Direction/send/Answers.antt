use Rattle.std.proofs.Common.{◌≡◌, ℕ, ◌<◌, ◌≤◌, Bool, true, false, if◌then◌else◌, ◌++◌, ◌∷◌, [], length, ap, ◌∙◌, sym, arith}
use Rattle.std.proofs.lemmas.Bool.{eqb-true, eqb-false}
use Rattle.switch_joins.specs.Direction.{more_sent}
use Rattle.switch_joins.proofs.Directions.{one_kept, none_kept}
use Rattle.switch_joins.proofs.direction.Direction.send.Goals as goal
use Rattle.switch_joins.proofs.direction.Direction.send.Goals.{then-delivery, else-delivery}

pub returns-else-not-is_full-clause-direction : goal.returns-else-not-is_full-clause-direction
returns-else-not-is_full-clause-direction c =
    let a = c.self.inside in
    let held = a.held.items in
    let full : length held ≡ 32 = eqb-true (length held) 32 (sym c.is_full.ensures.value ∙ c.if-not-is_full.false) in
    rw (← c.self.view_is) (λ i. record {
      held = none_kept held (if c.args.delivery then more_sent c.args.count a.outstanding else 0) (omega arith) (omega arith) i;
      outstanding = c.with_more-self-inside.ensures i;
      gathered = a.gathered;
    })

count_of : (b : Bool) (x n m : ℕ) → b ≡ true → x ≡ n → n ≡ m → x ≡ (if b then m else 0)
count_of b x n m is e f = rw is (e ∙ f)

none_of : (b : Bool) (x m : ℕ) → b ≡ false → x ≡ 0 → x ≡ (if b then m else 0)
none_of b x m is e = rw is e

pub returns-then-not-is_full-clause-direction : goal.returns-then-not-is_full-clause-direction
returns-then-not-is_full-clause-direction c =
    let a = c.self.inside in
    let held = a.held.items in
    let apart : (length held ≡ 32 → ⊥) = eqb-false (length held) 32 (sym c.is_full.ensures.value ∙ c.if-not-is_full.true) in
    let most : length held ≤ 32 = c.self.invariant.0 in
    let room : length held < 32 = grind (arith, most, apart) in
    let more = more_sent c.args.count a.outstanding in
    let uncovered : c.if-delivery.uncovered ≡ (if c.args.delivery then more else 0) = elim c.if-delivery.branch [
      | then-delivery w ↦ count_of c.args.delivery c.if-delivery.uncovered c.with_more-self-inside.result more w.if-delivery.true w.uncovered-is c.with_more-self-inside.ensures
      | else-delivery w ↦ none_of c.args.delivery c.if-delivery.uncovered more w.if-delivery.false w.uncovered-is
    ] in
    rw (← c.self.view_is) (λ i. record {
      held = (c.push.ensures.items ∙ (ap (λ (x : ℕ). held ++ x ∷ []) uncovered ∙ one_kept held (if c.args.delivery then more else 0) room)) i;
      outstanding = c.with_more-self-inside.ensures i;
      gathered = a.gathered;
    })
