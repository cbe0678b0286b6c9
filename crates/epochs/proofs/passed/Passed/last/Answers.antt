use Rattle.std.proofs.Common.{ℕ, List, length, ap, ◌∙◌, arith}
use Rattle.epochs.specs.Passed.{PassedState}
use Rattle.epochs.specs.EpochEnds.{outset, end_of, part_between}
use Rattle.epochs.specs.declared.passed.EpochEnd.{EpochEnd}
use Rattle.epochs.proofs.Cutting.{ends_within, now_at, up_to_now}
use Rattle.epochs.proofs.passed.Passed.last.Goals as goal

pub epoch_between-requires : goal.epoch_between-requires
epoch_between-requires c =
    let a = c.self.inside in
    let ps = a.packets.packets in
    let is = c.as_slice-interrupts.result.now in
    let within = ends_within outset a.ends.items (length ps) (length a.interrupts.items) c.self.invariant in
    let from = c.last_end-from.ensures ∙ ap (λ (es : List EpochEnd). end_of outset es) c.as_slice.ensures.value in
    let same = ap (λ (is : List (List ℕ)). length is) c.as_slice-interrupts.ensures.value in
    let from_packets = ap (λ (e : EpochEnd). e.packets) from in
    let from_interrupts = ap (λ (e : EpochEnd). e.interrupts) from in
    let here_packets = ap (λ (e : EpochEnd). e.packets) c.end_here-here.ensures in
    let here_interrupts = ap (λ (e : EpochEnd). e.interrupts) c.end_here-here.ensures in
    record {
      order = record {
        packets = omega (arith, within.packets, from_packets, here_packets);
        interrupts = omega (arith, within.interrupts, from_interrupts, here_interrupts, same);
      };
      there = record {
        packets = omega (arith, here_packets);
        interrupts = omega (arith, here_interrupts);
      };
    }

pub returns : goal.returns
returns c =
    let a = c.self.inside in
    let ps = a.packets.packets in
    let is = c.as_slice-interrupts.result.now in
    let from = c.last_end-from.ensures ∙ ap (λ (es : List EpochEnd). end_of outset es) c.as_slice.ensures.value in
    c.epoch_between.ensures
    ∙ ap (λ (e : EpochEnd). part_between e c.end_here-here.result ps is) from
    ∙ ap (λ (e : EpochEnd). part_between (end_of outset a.ends.items) e ps is) c.end_here-here.ensures
    ∙ ap (λ (is : List (List ℕ)). part_between (end_of outset a.ends.items) (now_at a.counted ps is) ps is) c.as_slice-interrupts.ensures.value
    ∙ up_to_now (end_of outset a.ends.items) a.counted ps a.interrupts.items
    ∙ ap (λ (s : PassedState). s.epochs.last) c.self.view_is
