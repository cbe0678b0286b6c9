use Rattle.std.proofs.Common.{refl, sym, ◌∙◌, ap, arith}
use Rattle.user_nodes.specs.Node.{Host}
use Rattle.net_events.specs.EventView.{host_event_of}
use Rattle.node_events.specs.Users.{refused}
use Rattle.node_events.proofs.Users.{numbered, host_answers, called_by}
use Rattle.node_events.proofs.serving.call_host.Goals as goal

pub ask_host-requires-clause-numbered : goal.ask_host-requires-clause-numbered
ask_host-requires-clause-numbered c =
    numbered c.args.event.now c.args.channels (omega (arith, c.ranges.channels.fits)) (sym c.is_on_line.ensures ∙ c.if-not-is_on_line.false)

pub returns-clause-called : goal.returns-clause-called
returns-clause-called c =
    let event = c.args.event.now in
    let e = c.args.host.now in
    let o = c.in_ok-open_turn.ensures.opened in
    let on = sym c.is_on_line.ensures ∙ c.if-not-is_on_line.false in
    let answer = c.in_ok-ask_host.ensures.answer in (
      host_answers c.args.channels event e on ∙ ap refused answer.0,
      called_by c.args.at (host_event_of event) (Host e) _ _ c.open_turn.new.register _ c.open_turn.new.answer _ o refl refl c.in_ok-ask_host.ensures.ok
          c.in_ok-open_turn.ensures.empty.ready refl refl answer.1 c.in_ok-ask_host.ensures.text,
    )
