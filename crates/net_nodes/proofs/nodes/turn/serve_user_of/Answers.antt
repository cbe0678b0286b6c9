use Rattle.std.proofs.Common.{Ok, ◌≡◌, ap, ◌∙◌, sym}
use Rattle.std.specs.Result.{result_and}
use Rattle.call_records.specs.RegisterView.{register_of}
use Rattle.user_nodes.specs.NodeView.{node_of}
use Rattle.net_events.specs.EventView.{user_event_of}
use Rattle.net_events.specs.Network.{PlacedNode}
use Rattle.net_events.proofs.Users.{user_is}
use Rattle.node_events.specs.Users.{user_fault}
use Rattle.net_node.specs.NodeView.{kind_of}
use Rattle.net_nodes.proofs.Serving.{user_served}
use Rattle.net_nodes.proofs.nodes.turn.serve_user_of.Goals as goal

pub serve_user-requires-clause-quiet : goal.serve_user-requires-clause-quiet
serve_user-requires-clause-quiet g c =
    c.requires.quiet (record { line = c.in-User.line; node = node_of c.in-User.node }) (sym (ap kind_of (sym c.in-User.is) ∙ c.node.view_is))

pub returns-clause-served : goal.returns-clause-served
returns-clause-served g c =
    λ n is.
    let p : PlacedNode = record { line = c.in-User.line; node = node_of c.in-User.node } in
    let same : p ≡ n = user_is p n (ap kind_of (sym c.in-User.is) ∙ c.node.view_is ∙ is) in
    user_served g.L.Line.service c.args.at (user_event_of c.args.event.now) (user_fault c.args.net_line.now.channels c.args.event.now) p n _ (register_of c.args.register.now)
    (result_and c.serve_user.result (Ok c.serve_user.new.answer)) (node_of c.serve_user.new.node) c.serve_user.new.net_line.flights (register_of c.serve_user.new.register) same c.serve_user.ensures.served
