use Rattle.std.proofs.Common.{refl, ap, ◌∙◌}
use Rattle.net_events.specs.declared.event.Event.TheVariants.{AtTerminal}
use Rattle.service.specs.Serving.{WishesPresence}
use Rattle.service.proofs.Served.{serves-none, none_untold, presence_heard, presence_waits}
use Rattle.service.proofs.exchange.Exchange.tell.Goals as goal

pub returns-in_default : goal.returns-in_default
returns-in_default g c =
    serves-none g.L.Line.service c.args.at (WishesPresence c.args.at) _ _ (λ event wish. none_untold _ _ c.in_default.is wish.1)

pub returns-then-not-happen : goal.returns-then-not-happen
returns-then-not-happen g c =
    presence_waits g.L.Line.service c.args.at c.in-Some.presence _ _ _ _ _
    (c.at_terminal.ensures ∙ ap (λ event. AtTerminal c.args.at.node c.args.at.number event) c.presence_event.ensures)
    c.happen.ensures.does c.if-not-happen.true c.in-Some.is

pub returns : goal.returns
returns g c =
    presence_heard g.L.Line.service c.args.at (WishesPresence c.args.at) c.in-Some.presence _ _ _ _ _ _
    (c.at_terminal.ensures ∙ ap (λ event. AtTerminal c.args.at.node c.args.at.number event) c.presence_event.ensures)
    c.happen.ensures.does c.if-not-happen.false c.in-Some.is refl
