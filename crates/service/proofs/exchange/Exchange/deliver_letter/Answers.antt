use Rattle.service.proofs.EachBridge.{serves_none, serves_refused}
use Rattle.service.proofs.exchange.Exchange.deliver_letter.Goals as goal

pub returns-in_default : goal.returns-in_default
returns-in_default g c = serves_none g.L.Line.service _ _ _

pub returns-then-hear : goal.returns-then-hear
returns-then-hear g c =
    serves_refused g.L.Line.service c.in-Some.letter.at _ _ _ _ _ _ c.ask_event.ensures c.happen.ensures.does c.hear.ensures
