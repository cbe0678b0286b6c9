use Rattle.std.proofs.Common.{rules, ◌≡◌, ◌∷◌, get_or, refl, sym}
use Rattle.epochs.proofs.ListPrefixes.{iff-then, prefix-next, prefix-differs, prefix-none, prefix-along, drop-ended}
use Rattle.epochs.proofs.matching.interrupts_begin.Goals as goal

pub returns-then-ne : goal.returns-then-ne
returns-then-ne c =
    let xs = c.args.interrupts.now in
    let i = c.loop-interrupt.interrupt-index in
    let x = c.octets-in-loop-interrupt.result.now in
    let y = c.octets.result.now in
    let there : x ≡ get_or xs i x = search rules in
    let is : c.loop-interrupt.rest.now ≡ y ∷ c.in-Some.more.now = search rules in
    let differ : x ≡ y → ⊥ = search rules in
    (λ t. cc, λ p. absurd (prefix-differs xs i x y _ _ (search rules) there is differ (c.loop-interrupt.invariant.0 p)))

pub loop-interrupt-preserved : goal.loop-interrupt-preserved
loop-interrupt-preserved c =
    let xs = c.args.interrupts.now in
    let i = c.loop-interrupt.interrupt-index in
    let x = c.octets-in-loop-interrupt.result.now in
    let y = c.octets.result.now in
    let there : x ≡ get_or xs i x = search rules in
    let is : c.loop-interrupt.rest.now ≡ y ∷ c.in-Some.more.now = search rules in
    let same : x ≡ y = search rules in
    iff-then c.loop-interrupt.invariant (prefix-next xs i x y _ _ (search rules) there is same)

pub returns : goal.returns
returns c =
    let xs = c.args.interrupts.now in
    let none = drop-ended c.loop-interrupt.interrupt-index xs (search rules) in
    (λ t. c.loop-interrupt.invariant.1 (prefix-along (sym none) refl (prefix-none c.loop-interrupt.rest.now)), λ p. refl)
