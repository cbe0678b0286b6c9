use Rattle.std.proofs.Common.{◌≡◌, ℕ, ◌-◌, List, length, ap, ◌∙◌, arith}
use Rattle.epochs.specs.Counted.{counted}
use Rattle.epochs.specs.Passed.{PassedState, with_counted}
use Rattle.epochs.specs.EpochEnds.{outset, end_of}
use Rattle.epochs.specs.declared.passed.EpochEnd.{EpochEnd}
use Rattle.epochs.proofs.Cutting.{ends_within, more_counted}
use Rattle.epochs.proofs.passed.Passed.count.Goals as goal

pub overflow_sub-all : goal.overflow_sub-all
overflow_sub-all c =
    let a = c.self.inside in
    let within = ends_within outset a.ends.items (length a.packets.packets) (length a.interrupts.items) c.self.invariant in
    let from = ap (λ (e : EpochEnd). e.packets) (c.last_end-from.ensures ∙ ap (λ (es : List EpochEnd). end_of outset es) c.as_slice.ensures.value) in
    omega (arith, within.packets, from, c.len.ensures)

pub returns-clause-epochs : goal.returns-clause-epochs
returns-clause-epochs c =
    let a = c.self.inside in
    let ps = a.packets.packets in
    let from = ap (λ (e : EpochEnd). e.packets) (c.last_end-from.ensures ∙ ap (λ (es : List EpochEnd). end_of outset es) c.as_slice.ensures.value) in
    let all : c.len.result - c.last_end-from.result.packets ≡ length ps - (end_of outset a.ends.items).packets = omega (arith, from, c.len.ensures) in
    more_counted a.ends.items a.counted ps a.interrupts.items c.args.more c.counted-self-inside.result
    (c.counted-self-inside.ensures ∙ ap (λ (k : ℕ). counted k a.counted c.args.more) all)
    ∙ ap (λ (s : PassedState). with_counted c.args.more s.epochs) c.self.view_is
