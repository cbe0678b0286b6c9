use Rattle.service.proofs.EachBridge.{serves_call}
use Rattle.service.proofs.exchange.Exchange.place_call.Goals as goal

pub returns : goal.returns
returns g c = serves_call g.L.Line.service _ _ _ _ _ c.call-at.ensures c.placed.ensures
