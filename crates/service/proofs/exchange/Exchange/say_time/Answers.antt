use Rattle.std.proofs.Common.{true, false}
use Rattle.service.proofs.Bridged.{passes_at_ask, passes_at_with}
use Rattle.service.proofs.exchange.Exchange.say_time.Goals as goal

pub returns-then-not-happen : goal.returns-then-not-happen
returns-then-not-happen g c =
    passes_at_with g.L.Line.service c.args.at _ false _ _ c.if-not-happen.true
    (passes_at_ask g.L.Line.service c.args.at _ _ _ _ _ c.ask_event.ensures c.happen.ensures.does)

pub returns-in-Some : goal.returns-in-Some
returns-in-Some g c =
    passes_at_with g.L.Line.service c.args.at _ true _ _ c.if-not-happen.false
    (passes_at_ask g.L.Line.service c.args.at _ _ _ _ _ c.ask_event.ensures c.happen.ensures.does)

pub returns-in_default-call_mut : goal.returns-in_default-call_mut
returns-in_default-call_mut g c =
    passes_at_with g.L.Line.service c.args.at _ true _ _ c.if-not-happen.false
    (passes_at_ask g.L.Line.service c.args.at _ _ _ _ _ c.ask_event.ensures c.happen.ensures.does)
