use Rattle.service.proofs.EachBridge.{calls_on, calls_refused}
use Rattle.service.proofs.exchange.Exchange.call.Goals as goal

pub returns-in-Ok : goal.returns-in-Ok
returns-in-Ok g c =
    calls_on g.L.Line.service c.args.caller.now.node _ c.step.result c.in-Ok.answer _ _ _ c.call.ensures.of_node
    c.step.follows.holds-at-none c.in-Ok.is c.channel_of-at.ensures

pub returns : goal.returns
returns g c =
    calls_refused g.L.Line.service c.args.caller.now.node _ c.step.result c.in-Err.field-0 _ _ c.call.ensures.of_node
    c.step.follows.holds-at-none c.in-Err.is
