use Rattle.service.proofs.Bridged.{passes_at_ask}
use Rattle.service.proofs.exchange.Exchange.say_held.Goals as goal

pub returns-in-Some-call_mut : goal.returns-in-Some-call_mut
returns-in-Some-call_mut g c =
    passes_at_ask g.L.Line.service c.args.at _ _ _ _ _ c.ask_event-event.ensures c.happen-said.ensures.does

pub returns-in_default-call_mut : goal.returns-in_default-call_mut
returns-in_default-call_mut g c =
    passes_at_ask g.L.Line.service c.args.at _ _ _ _ _ c.ask_event-event.ensures c.happen-said.ensures.does
