use Rattle.service.proofs.Stepping.{does_lent, does_refused, passes_does}
use Rattle.service.proofs.exchange.Exchange.happen.Goals as goal

pub returns-in-Ok-clause-passes : goal.returns-in-Ok-clause-passes
returns-in-Ok-clause-passes g c other =
    passes_does g.L.Line.service c.args.event.now _ _ _ other
    (does_lent g.L.Line.service c.args.event.now c.step.result c.in-Ok.answer c.is_idle.result _ _ c.step.follows.holds-at-none c.in-Ok.is c.is_idle.ensures)

pub returns-in-Err-clause-passes : goal.returns-in-Err-clause-passes
returns-in-Err-clause-passes g c other =
    passes_does g.L.Line.service c.args.event.now _ _ _ other
    (does_refused g.L.Line.service c.args.event.now c.step.result c.in-Err.field-0 _ _ c.step.follows.holds-at-none c.in-Err.is)
