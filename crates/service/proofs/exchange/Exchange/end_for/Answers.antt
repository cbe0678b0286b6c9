use Rattle.service.proofs.Bridged.{carries_ask}
use Rattle.service.proofs.exchange.Exchange.end_for.Goals as goal

pub returns : goal.returns
returns g c =
    carries_ask g.L.Line.service c.args.at _ c.args.request _ _ _ _ _ _ c.ask_event.ensures c.requires c.happen-done.ensures.does
    c.cleared.ensures
