use Rattle.service.proofs.Bridged.{passes_at_ask}
use Rattle.service.proofs.exchange.Exchange.ask.Goals as goal

pub returns : goal.returns
returns g c =
    passes_at_ask g.L.Line.service c.args.at _ c.args.request _ _ _ c.ask_event.ensures c.happen.ensures.does
