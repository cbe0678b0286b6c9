use Rattle.service.proofs.Bridged.{passes_at_packet, passes_at_no_take}
use Rattle.service.proofs.exchange.Exchange.take_next.Goals as goal

pub returns-in-Ok : goal.returns-in-Ok
returns-in-Ok g c =
    passes_at_packet g.L.Line.service c.args.at _ c.step.result c.in-Ok.answer c.is_idle.result _ _ c.take_event.ensures
    c.step.follows.holds-at-none c.in-Ok.is c.is_idle.ensures

pub returns : goal.returns
returns g c =
    passes_at_no_take g.L.Line.service c.args.at _ c.step.result c.in-Err.field-0 _ _ c.take_event.ensures
    c.step.follows.holds-at-none c.in-Err.is
