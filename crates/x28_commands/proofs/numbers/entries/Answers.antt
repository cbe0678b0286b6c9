-- One entry more is read, or the last one, or none where one has to be.
use Rattle.std.proofs.Common.{◌<◌, ◌∷◌, [], length, length-append, arith, sym}
use Rattle.x28_commands.proofs.Parts.{reads_none, reads_more, reads_last}
use Rattle.x28_commands.proofs.numbers.entries.Goals as goal

pub returns-in-None : goal.returns-in-None
returns-in-None g c =
    reads_none g.E.Entry.said c.loop-entry.found.items c.args.text.now c.loop-entry.rest.now c.first_part.result.0.now c.first_part.result.1
    c.first_part.ensures.parts (sym c.in-None.ensures) c.loop-entry.invariant.0

pub loop-entry-preserved : goal.loop-entry-preserved
loop-entry-preserved g c =
    let cut = rw c.in-Some-after.is at c.first_part.ensures.parts in
    let shorter : length c.in-Some-after.after.now < length c.loop-entry.rest.now = rw c.in-Some-after.is at c.first_part.ensures.shorter in
    rw c.push.ensures.items (
      reads_more g.E.Entry.said c.loop-entry.found.items c.args.text.now c.loop-entry.rest.now c.first_part.result.0.now c.in-Some-after.after
          c.in-Some.entry cut (sym c.in-Some.ensures) c.loop-entry.invariant.0,
      omega (arith, length-append c.loop-entry.found.items (c.in-Some.entry ∷ []), c.loop-entry.invariant.1),
    )

pub returns-in-None-after : goal.returns-in-None-after
returns-in-None-after g c =
    let cut = rw c.in-None-after.is at c.first_part.ensures.parts in
    rw c.push.ensures.items
    (reads_last g.E.Entry.said c.loop-entry.found.items c.args.text.now c.loop-entry.rest.now c.first_part.result.0.now c.in-Some.entry
    cut (sym c.in-Some.ensures) c.loop-entry.invariant.0)
