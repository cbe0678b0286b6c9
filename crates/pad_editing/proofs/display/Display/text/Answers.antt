-- One octet more is laid out, and at the end all are.
use Rattle.std.proofs.Common.{arith}
use Rattle.pad_editing.proofs.LaidOut.{lays_out_more, lays_out_all}
use Rattle.pad_editing.proofs.display.Display.text.Goals as goal

pub loop-octet-preserved : goal.loop-octet-preserved
loop-octet-preserved g c = (
  lays_out_more _ _ _ c.args.octets.now _ _ _ _ c.loop-octet.octet-index _ c.loop-octet-test.true
      c.show-at.ensures.text c.show-at.ensures.column c.loop-octet.invariant.0,
  omega (arith, c.loop-octet.invariant.1, c.show-at.ensures.room),
)

pub returns-clause-text : goal.returns-clause-text
returns-clause-text g c = (lays_out_all _ _ c.args.octets.now _ _ _ c.loop-octet.octet-index _ (omega arith) c.loop-octet.invariant.0).0

pub returns-clause-column : goal.returns-clause-column
returns-clause-column g c = (lays_out_all _ _ c.args.octets.now _ _ _ c.loop-octet.octet-index _ (omega arith) c.loop-octet.invariant.0).1
