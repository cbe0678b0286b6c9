use Rattle.std.proofs.Common.{sym, ap, ◌∙◌}
use Rattle.service.specs.Serving.{WishesXon}
use Rattle.service.proofs.Served.{xon_rests, xon_waits, key_hastened}
use Rattle.service.proofs.exchange.Exchange.hasten.Goals as goal

pub returns-in_default : goal.returns-in_default
returns-in_default g c = xon_rests g.L.Line.service c.args.at _ _ (sym c.find_xon.ensures ∙ c.in_default.is)

pub returns-then-not-happen : goal.returns-then-not-happen
returns-then-not-happen g c =
    xon_waits g.L.Line.service c.args.at _ _ _ _ _ c.at_terminal.ensures c.happen.ensures.does c.if-not-happen.true

pub returns : goal.returns
returns g c =
    key_hastened g.L.Line.service c.args.at (WishesXon c.args.at) c.in-Some.place _ _ _ _ _ _ c.at_terminal.ensures
    c.happen.ensures.does c.if-not-happen.false (sym c.in-Some.ensures)
    (ap (λ port. record c.args.terminal.now { port = port }) c.drop_key.ensures)
