use Rattle.std.proofs.Common.{refl}
use Rattle.service.proofs.AllTerminals.{there_at}
use Rattle.service.proofs.Seated.{pads_more}
use Rattle.service.proofs.absent.leave_absent.Goals as goal

pub loop-pad-preserved : goal.loop-pad-preserved
loop-pad-preserved g c =
    pads_more g.L.Line.service c.loop-pad.pad-index c.args.pads.now _ c.args.places.now _ _ _ c.loop-pad.invariant
    (there_at c.args.pads.now c.loop-pad.pad-index _ _ c.loop-pad-test.true refl) c.leave_pad.ensures
