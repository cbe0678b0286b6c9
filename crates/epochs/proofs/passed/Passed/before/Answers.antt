use Rattle.std.proofs.Common.{ℕ, ◌≤◌, List, length, take, refl, sym, ap, ◌∙◌, arith}
use Rattle.std.specs.Prelude.{Some, slice_get}
use Rattle.std.proofs.lemmas.Option.{slice_get_read, slice_get_past}
use Rattle.epochs.specs.Passed.{PassedState, Part}
use Rattle.epochs.specs.EpochEnds.{outset, end_of, part_between}
use Rattle.epochs.specs.declared.passed.EpochEnd.{EpochEnd}
use Rattle.epochs.proofs.Cutting.{in_order_at, part_there, no_part_there}
use Rattle.epochs.proofs.passed.Passed.before.Goals as goal

pub epoch_between-requires : goal.epoch_between-requires
epoch_between-requires c =
    let a = c.self.inside in
    let ps = a.packets.packets in
    let n = c.args.number in
    let end = c.in-Some.end.now in
    let there = ap (λ (es : List EpochEnd). slice_get es n) (sym c.as_slice-ends.ensures.value)
    ∙ slice_get_read c.as_slice-ends.result.now (length c.as_slice-ends.result.now) n end refl c.in-Some.ensures.lookup.3.0 c.in-Some.ensures.lookup.1 in
    let within = in_order_at outset a.ends.items n end (length ps) (length a.interrupts.items) c.self.invariant there in
    let from = c.last_end-from.ensures ∙ ap (λ (es : List EpochEnd). end_of outset (take n es)) c.as_slice-ends.ensures.value in
    let from_packets = ap (λ (e : EpochEnd). e.packets) from in
    let from_interrupts = ap (λ (e : EpochEnd). e.interrupts) from in
    let same = ap (λ (is : List (List ℕ)). length is) c.as_slice-interrupts.ensures.value in
    record {
      order = record {
        packets = omega (arith, within.0.packets, from_packets);
        interrupts = omega (arith, within.0.interrupts, from_interrupts);
      };
      there = record {
        packets = within.1.packets;
        interrupts = omega (arith, within.1.interrupts, same);
      };
    }

pub returns-in-Some : goal.returns-in-Some
returns-in-Some c =
    let a = c.self.inside in
    let ps = a.packets.packets in
    let n = c.args.number in
    let end = c.in-Some.end.now in
    let there = ap (λ (es : List EpochEnd). slice_get es n) (sym c.as_slice-ends.ensures.value)
    ∙ slice_get_read c.as_slice-ends.result.now (length c.as_slice-ends.result.now) n end refl c.in-Some.ensures.lookup.3.0 c.in-Some.ensures.lookup.1 in
    let from = c.last_end-from.ensures ∙ ap (λ (es : List EpochEnd). end_of outset (take n es)) c.as_slice-ends.ensures.value in
    ap (λ (p : Part). Some p) (c.epoch_between.ensures
    ∙ ap (λ (e : EpochEnd). part_between e end ps c.as_slice-interrupts.result.now) from
    ∙ ap (λ (is : List (List ℕ)). part_between (end_of outset (take n a.ends.items)) end ps is) c.as_slice-interrupts.ensures.value)
    ∙ part_there a.ends.items n end ps a.interrupts.items there
    ∙ ap (λ (s : PassedState). slice_get s.epochs.before n) c.self.view_is

pub returns-in-None : goal.returns-in-None
returns-in-None c =
    let a = c.self.inside in
    let n = c.args.number in
    let past : length c.as_slice-ends.result.now ≤ n = c.in-None.ensures.lookup.3 in
    let none = ap (λ (es : List EpochEnd). slice_get es n) (sym c.as_slice-ends.ensures.value) ∙ slice_get_past c.as_slice-ends.result.now n past in
    no_part_there a.ends.items n a.packets.packets a.interrupts.items none
    ∙ ap (λ (s : PassedState). slice_get s.epochs.before n) c.self.view_is
