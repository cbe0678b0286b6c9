use Rattle.std.proofs.Common.{ap, ◌∙◌, length}
use Rattle.service.specs.Bridging.{said_of}
use Rattle.service.proofs.Bridged.{carries_none, carries_refused, carries_say, on_filled}
use Rattle.service.proofs.exchange.Exchange.say_next.Goals as goal

pub returns-then-not-fill_message-clause-carries : goal.returns-then-not-fill_message-clause-carries
returns-then-not-fill_message-clause-carries g c = carries_none g.L.Line.service c.args.at _ _ _

pub returns-then-not-said-clause-carries : goal.returns-then-not-said-clause-carries
returns-then-not-said-clause-carries g c =
    carries_refused g.L.Line.service c.args.at _ _ _ _ _ _ c.ask_event-event.ensures c.if-not-said.true c.happen-said.ensures.does

pub returns-clause-carries : goal.returns-clause-carries
returns-clause-carries g c =
    carries_say g.L.Line.service c.args.at _ _ _ _ _ 1024 _ _ _ _ c.ask_event-event.ensures (ap said_of c.say_request.ensures)
    (on_filled _ _ _ c.if-not-fill_message.false c.fill_message.ensures ∙ c.message.ensures)
    (ap length c.as_slice-count.ensures.value) c.if-not-said.false c.happen-said.ensures.does c.said.ensures
