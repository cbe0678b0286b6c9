use Rattle.service.proofs.Stepping.{expiry_elsewhere}
use Rattle.service.proofs.AllTerminals.{expires_none, expires_one}
use Rattle.service.proofs.exchange.Exchange.expire.Goals as goal

pub returns-in-Some : goal.returns-in-Some
returns-in-Some g c =
    let is = expiry_elsewhere _ _ c.in-Some.ensures in
    expires_one g.L.Line.service _ _ _ _ is.0 is.1 c.happen.ensures.does

pub returns-in-None : goal.returns-in-None
returns-in-None g c = expires_none g.L.Line.service _ c.in-None.ensures
