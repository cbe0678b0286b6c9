use Rattle.std.proofs.Common.{refl}
use Rattle.user_nodes.specs.NodeView.{node_of}
use Rattle.net_events.specs.EventView.{user_event_of}
use Rattle.call_records.specs.RegisterView.{register_of}
use Rattle.node_events.proofs.Users.{turn_had}
use Rattle.node_events.proofs.serving.serve_user.Goals as goal

pub returns-clause-served : goal.returns-clause-served
returns-clause-served g c =
    let called = c.in_ok-call_user.ensures.called in
    rw (← c.net_line.view_is) (
      called.0,
      turn_had g.L.Line.service c.args.at (user_event_of c.args.event.now)
          (record { node = node_of c.args.node.now; flights = g.L.Line.flights c.net_line.inside.line; register = register_of c.args.register.now })
          c.call_user.new.answer c.finish.new.answer (node_of c.call_user.new.node) (node_of c.finish.new.node) (g.L.Line.flights c.finish.new.line) c.call_user.new.register
          c.finish.new.book.book _ called.1 c.finish.ensures.served c.finish.ensures.text c.finish.ensures.outcome refl,
    )
