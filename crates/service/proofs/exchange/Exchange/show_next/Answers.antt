use Rattle.std.proofs.Common.{sym, ◌∙◌}
use Rattle.service.specs.Serving.{WishesText}
use Rattle.service.proofs.Served.{text_rests, text_lent, text_idle, text_refused, text_fits}
use Rattle.service.proofs.exchange.Exchange.show_next.Goals as goal

pub returns-then-not-may_show : goal.returns-then-not-may_show
returns-then-not-may_show g c = text_rests g.L.Line.service c.args.at _ _ (sym c.may_show.ensures ∙ c.if-not-may_show.true)

pub returns-then-is_idle : goal.returns-then-is_idle
returns-then-is_idle g c =
    text_idle g.L.Line.service c.args.at _ c.step.result c.in-Ok.answer c.is_idle.result _ _ _ c.at_terminal.ensures
    c.step.follows.holds-at-none c.in-Ok.is c.is_idle.ensures c.if-is_idle.true

pub show-requires-clause-short : goal.show-requires-clause-short
show-requires-clause-short g c = text_fits c.step.result c.in-Ok.answer _ c.in-Ok.is c.step.ensures.limits c.as_slice-in-Ok.ensures.value

pub returns-in-Ok : goal.returns-in-Ok
returns-in-Ok g c =
    text_lent g.L.Line.service c.args.at (WishesText c.args.at) _ c.step.result c.in-Ok.answer _ _ _ _ _ c.at_terminal.ensures
    c.step.follows.holds-at-none c.in-Ok.is c.as_slice-in-Ok.ensures.value c.show.ensures

pub returns : goal.returns
returns g c =
    text_refused g.L.Line.service c.args.at _ c.step.result c.in-Err.field-0 _ _ _ c.at_terminal.ensures
    c.step.follows.holds-at-none c.in-Err.is
