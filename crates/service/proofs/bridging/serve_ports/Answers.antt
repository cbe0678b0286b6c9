use Rattle.service.proofs.EachBridge.{serves_none, serves_either}
use Rattle.service.proofs.bridging.serve_ports.Goals as goal

pub loop-place-init : goal.loop-place-init
loop-place-init g c = serves_none g.L.Line.service _ _ _

pub loop-place-preserved : goal.loop-place-preserved
loop-place-preserved g c =
    serves_either g.L.Line.service _ _ _ _ _ _ _ _ c.loop-place.invariant c.serve_bridge-done.ensures
