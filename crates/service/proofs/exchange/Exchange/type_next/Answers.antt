use Rattle.std.proofs.Common.{sym, ap, ◌∙◌}
use Rattle.net_events.specs.declared.event.Event.TheVariants.{AtTerminal}
use Rattle.service.specs.Serving.{WishesKeys}
use Rattle.service.proofs.Served.{key_rests, key_pressed, key_gives_way, keys_wait}
use Rattle.service.proofs.exchange.Exchange.type_next.Goals as goal

pub returns-in_default : goal.returns-in_default
returns-in_default g c = key_rests g.L.Line.service c.args.at _ _ (sym c.next_key.ensures ∙ c.in_default.is)

pub returns-then-happen : goal.returns-then-happen
returns-then-happen g c =
    key_pressed g.L.Line.service c.args.at (WishesKeys c.args.at) c.in-Some.key _ _ _ _ _ _
    (c.at_terminal.ensures ∙ ap (λ event. AtTerminal c.args.at.node c.args.at.number event) c.key_event.ensures)
    c.happen.ensures.does c.if-happen.true (sym c.in-Some.ensures)
    (ap (λ port. record c.args.terminal.now { port = port }) c.drop_keys.ensures)

pub returns-then-hasten : goal.returns-then-hasten
returns-then-hasten g c =
    key_gives_way g.L.Line.service c.args.at c.in-Some.key _ _ c.hasten.result _ _ _ _ _
    (c.at_terminal.ensures ∙ ap (λ event. AtTerminal c.args.at.node c.args.at.number event) c.key_event.ensures)
    c.happen.ensures.does c.if-happen.false c.hasten.ensures c.if-hasten.true

pub returns : goal.returns
returns g c =
    keys_wait g.L.Line.service c.args.at c.in-Some.key _ _ c.hasten.result c.overtake.result _ _ _ _ _ _
    (c.at_terminal.ensures ∙ ap (λ event. AtTerminal c.args.at.node c.args.at.number event) c.key_event.ensures)
    c.happen.ensures.does c.if-happen.false (sym c.in-Some.ensures) c.hasten.ensures c.if-hasten.false
    c.overtake.ensures.dropped c.overtake.ensures.same c.overtake.ensures.first
