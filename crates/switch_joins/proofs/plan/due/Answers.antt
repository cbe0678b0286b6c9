use Rattle.std.proofs.Common.{◌≤◌, ◌+◌, ◌-◌, ◌/◌, ◌&&◌, ◌||◌, not, if◌then◌else◌, sym, ap, ap₂, ◌∙◌, subst}
use Rattle.std.specs.Prelude.{nat_lt}
use Rattle.switch_joins.specs.Plan.{rest_length}
use Rattle.switch_joins.proofs.Planning.{due_short, due_count}
use Rattle.switch_joins.proofs.plan.due.Goals as goal

pub returns : goal.returns
returns c = λ g d e f h.
    let s = c.args.sizes in
    let n = c.args.gathered in
    let p = c.new-plan.result in
    let far = subst (λ k. 1 ≤ k) c.far.ensures.value c.far.ensures.some in
    let long = ap (λ k. nat_lt k p.size || (p.gathered_first && nat_lt k n)) (sym (c.from.ensures ∙ c.far.ensures.value)) ∙ sym c.is_long.ensures ∙ c.if-is_long.false in (
      due_short s n c.args.qualified c.args.packet p g d far c.new-plan.ensures.plan e f h ∙ ap not long,
      ap₂ (λ a b. a + b) c.from-3.ensures
          (c.pieces.ensures
          ∙ ap (λ k. if p.rest_waits then 0 else (k - 1) / p.size + 1)
          (c.rest_length-rest.ensures ∙ ap (λ k. rest_length p.gathered_first n k) c.from-2.ensures))
          ∙ sym (due_count s n c.args.qualified c.args.packet p g d c.new-plan.ensures.plan e f h),
    )

pub returns-then-is_long : goal.returns-then-is_long
returns-then-is_long c = λ g d e f h.
    let s = c.args.sizes in
    let n = c.args.gathered in
    let p = c.new-plan.result in
    let far = subst (λ k. 1 ≤ k) c.far.ensures.value c.far.ensures.some in
    let long = ap (λ k. nat_lt k p.size || (p.gathered_first && nat_lt k n)) (sym (c.from.ensures ∙ c.far.ensures.value)) ∙ sym c.is_long.ensures ∙ c.if-is_long.true in
    due_short s n c.args.qualified c.args.packet p g d far c.new-plan.ensures.plan e f h ∙ ap not long
