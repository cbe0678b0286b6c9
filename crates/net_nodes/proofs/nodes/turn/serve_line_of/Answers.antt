use Rattle.std.proofs.Common.{◌≡◌, ap, ◌∙◌, sym}
use Rattle.user_nodes.specs.NodeView.{node_of}
use Rattle.net_events.specs.EventView.{line_event_of}
use Rattle.net_events.specs.Network.{PlacedNode}
use Rattle.net_events.proofs.Users.{user_is}
use Rattle.net_node.specs.NodeView.{kind_of}
use Rattle.net_nodes.proofs.Serving.{line_served}
use Rattle.net_nodes.proofs.nodes.turn.serve_line_of.Goals as goal

pub serve_line-requires-clause-quiet : goal.serve_line-requires-clause-quiet
serve_line-requires-clause-quiet g c =
    c.requires.quiet (record { line = c.in-User.line; node = node_of c.in-User.node }) (sym (ap kind_of (sym c.in-User.is) ∙ c.node.view_is))

pub returns-clause-done : goal.returns-clause-done
returns-clause-done g c = λ n is.
    let p : PlacedNode = record { line = c.in-User.line; node = node_of c.in-User.node } in
    let same : p ≡ n = user_is p n (ap kind_of (sym c.in-User.is) ∙ c.node.view_is ∙ is) in
    line_served g.L.Line.service c.args.at (line_event_of c.args.event.now) p n (g.L.Line.flights c.args.line.now) c.args.book.now.book c.serve_line.new.answer
    (node_of c.serve_line.new.node) (g.L.Line.flights c.serve_line.new.line) c.serve_line.new.book.book same c.serve_line.ensures.answer c.serve_line.ensures.text c.serve_line.ensures.served
