use Rattle.service.proofs.EachBridge.{serves_none, serves_either}
use Rattle.service.proofs.exchange.Exchange.serve_calls.Goals as goal

pub loop-host-init : goal.loop-host-init
loop-host-init g c = serves_none g.L.Line.service _ _ _

pub loop-place-preserved : goal.loop-place-preserved
loop-place-preserved g c =
    serves_either g.L.Line.service _ _ _ _ _ _ _ _ c.loop-place.invariant c.serve_call-done.ensures

pub loop-host-preserved : goal.loop-host-preserved
loop-host-preserved g c = c.loop-place.invariant
