use Rattle.service.proofs.EachBridge.{serves_none, serves_more}
use Rattle.service.proofs.bridging.deliver_letters.Goals as goal

pub loop-init : goal.loop-init
loop-init g c = serves_none g.L.Line.service _ _ _

pub loop-preserved : goal.loop-preserved
loop-preserved g c =
    serves_more g.L.Line.service _ _ _ _ _ _ _ _ c.loop.invariant c.deliver_letter.ensures
