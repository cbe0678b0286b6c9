use Rattle.std.proofs.Common.{◌<◌, ℕ, length, ap, ◌∙◌, arith}
use Rattle.wide_set.specs.WideSet.{has}
use Rattle.wide_set.proofs.Parts.{beyond, at_part, least_of, none_up_to}
use Rattle.wide_set.proofs.WideSet.next.Goals as goal

pub returns-in-Some-clause-onward : goal.returns-in-Some-clause-onward
returns-in-Some-clause-onward c =
    let least = least_of c.index.result.now c.loop-part.first c.between-numbers.result c.in-Some.number c.between-numbers.ensures c.in-Some.ensures.first.there in
    omega (arith, least.0, c.loop-part.invariant.1)

pub returns-in-Some-clause-there : goal.returns-in-Some-clause-there
returns-in-Some-clause-there c =
    let parts = c.self.inside.parts.items in
    let least = least_of c.index.result.now c.loop-part.first c.between-numbers.result c.in-Some.number c.between-numbers.ensures c.in-Some.ensures.first.there in
    let within : c.loop-part.part < length parts = omega (arith, c.loop-part-test.true, c.len-part-end.ensures) in
    let at = at_part parts c.loop-part.part _ c.index.result.now within c.index.ensures c.in-Some.number least.1 in
    rw (← c.self.view_is) (ap (λ (m : ℕ). has parts m) (omega arith) ∙ at ∙ least.2)

pub returns-in-Some-clause-none : goal.returns-in-Some-clause-none
returns-in-Some-clause-none c =
    let least = least_of c.index.result.now c.loop-part.first c.between-numbers.result c.in-Some.number c.between-numbers.ensures c.in-Some.ensures.first.there in
    rw (← c.self.view_is)
    (λ n after before.
    none_up_to c.self.inside.parts.items c.loop-part.part _ c.index.result.now c.args.from c.loop-part.first c.between-numbers.result c.in-Some.number
    (omega (arith, c.loop-part-test.true, c.len-part-end.ensures)) c.index.ensures c.between-numbers.ensures (omega (arith, least.1))
    (rw c.self.view_is c.loop-part.invariant.2) (λ k less. c.in-Some.ensures.first.first k less) n after (omega (arith, before)))

pub loop-part-preserved : goal.loop-part-preserved
loop-part-preserved c = (
  omega arith,
  omega (arith, c.loop-part.invariant.0, c.loop-part.invariant.1),
  rw (← c.self.view_is)
      (λ n after before.
      none_up_to c.self.inside.parts.items c.loop-part.part _ c.index.result.now c.args.from c.loop-part.first c.between-numbers.result 32
      (omega (arith, c.loop-part-test.true, c.len-part-end.ensures)) c.index.ensures c.between-numbers.ensures (omega arith)
      (rw c.self.view_is c.loop-part.invariant.2) (λ k less. c.in_default.ensures.first k) n after (omega (arith, before))),
)

pub returns-clause-there : goal.returns-clause-there
returns-clause-there c =
    rw (← c.self.view_is) (beyond c.self.inside.parts.items c.max.result (omega (arith, c.max.ensures, c.len.ensures)))
