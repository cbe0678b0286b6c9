use Rattle.std.proofs.Common.{sym, ◌∙◌}
use Rattle.service.proofs.ServedLines.{lines_kept, lines_give_up}
use Rattle.service.proofs.exchange.Exchange.give_up.Goals as goal

pub returns-in_default : goal.returns-in_default
returns-in_default g c = lines_kept g.L.Line.service _ _ c.next_given_up.ensures.after

pub returns : goal.returns
returns g c =
    lines_give_up g.L.Line.service _ c.happen.result _ _ _ (sym c.next_given_up.ensures.event ∙ c.in-Some.is)
    c.next_given_up.ensures.after c.happen.ensures.does
