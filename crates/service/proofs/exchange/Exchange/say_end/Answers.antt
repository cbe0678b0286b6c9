use Rattle.std.proofs.Common.{ap, ◌∙◌}
use Rattle.service.specs.Bridging.{said_of}
use Rattle.service.proofs.Bridged.{carries_ask, carries_refused, carries_with}
use Rattle.service.proofs.exchange.Exchange.say_end.Goals as goal

pub returns-then-not-happen : goal.returns-then-not-happen
returns-then-not-happen g c =
    carries_refused g.L.Line.service c.args.at _ _ _ _ _ _ c.ask_event.ensures c.if-not-happen.true c.happen.ensures.does

pub returns : goal.returns
returns g c =
    carries_with g.L.Line.service c.args.at _ _ _ _ _ _ c.if-not-happen.false
    (carries_ask g.L.Line.service c.args.at _ _ _ _ _ _ _ _ c.ask_event.ensures
    (ap said_of c.say_request-request.ensures ∙ c.new.ensures.items) c.happen.ensures.does c.said_end.ensures)
