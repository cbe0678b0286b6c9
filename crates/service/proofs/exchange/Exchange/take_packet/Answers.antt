use Rattle.service.proofs.Bridged.{carries_none, carries_packet, carries_no_take}
use Rattle.service.proofs.exchange.Exchange.take_packet.Goals as goal

pub returns-then-not-takes : goal.returns-then-not-takes
returns-then-not-takes g c = carries_none g.L.Line.service c.args.at _ _ _

pub returns-in-Ok : goal.returns-in-Ok
returns-in-Ok g c =
    carries_packet g.L.Line.service c.args.at _ c.step.result c.in-Ok.answer c.is_idle-done.result _ _ _ _ _ c.take_event.ensures
    c.step.follows.holds-at-none c.in-Ok.is c.is_idle-done.ensures c.as_slice-in-Ok.ensures.value c.hand_over.ensures

pub returns : goal.returns
returns g c =
    carries_no_take g.L.Line.service c.args.at _ c.step.result c.in-Err.field-0 _ _ _ c.take_event.ensures
    c.step.follows.holds-at-none c.in-Err.is
