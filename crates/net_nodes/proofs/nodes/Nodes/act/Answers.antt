use Rattle.std.proofs.Common.{Ok, ◌≡◌, sym, ap, ◌∙◌, subst, slice_get}
use Rattle.std.specs.Result.{result_and}
use Rattle.call_records.specs.RegisterView.{register_of}
use Rattle.net_events.specs.EventView.{line_event_of}
use Rattle.net_events.specs.Network.{NetLine, place_at}
use Rattle.net_nodes.specs.Turns.{CanAct}
use Rattle.net_events.proofs.Lists.{found, within}
use Rattle.net_nodes.proofs.LineEndEvents.{can_serve, acts, turned_from}
use Rattle.net_nodes.proofs.nodes.Nodes.act.Goals as goal

pub serve_at-requires : goal.serve_at-requires
serve_at-requires g c =
    let end = c.args.end in
    let lines = c.self.inside.lines.items in
    let can = subst (CanAct end) (sym c.self.view_is) c.requires.can in
    can_serve end c.self.inside.nodes.items can.line can.node can.node_there can.quiet c.self.inside.register can.registered c.index_mut.result.now can.line.flights c.open.new.self c.make_room.new.answer
    (found lines end.line _ _ can.line (within lines end.line can.line can.line_there) c.index_mut.ensures.value can.line_there)
    c.open.ensures.same c.open.ensures.at c.open.ensures.book c.in_ok-open.ensures.room c.in_ok-open.ensures.pairs c.in_ok-make_room.ensures.empty

pub returns-clause-done : goal.returns-clause-done
returns-clause-done g c =
    let L = g.L.Line.service in
    let end = c.args.end in
    let event = c.args.event.now in
    let lines = c.self.inside.lines.items in
    rw (← c.self.view_is)
    (λ l n line_there node_there.
    let is_line : c.index_mut.result.now ≡ l = found lines end.line _ _ l (within lines end.line l line_there) c.index_mut.ensures.value line_there in
    let w = c.serve_at.ensures.done n (ap (λ (x : NetLine). slice_get c.self.inside.nodes.items (place_at end.role x)) is_line ∙ node_there) in
    acts L end event _ l n (result_and c.serve_at.result (Ok c.serve_at.new.answer)) c.serve_at.new.nodes.items c.serve_at.new.net_line (register_of c.serve_at.new.register)
    line_there node_there c.requires.leaves
    (turned_from L end (line_event_of event) n (result_and c.serve_at.result (Ok c.serve_at.new.answer)) c.self.inside.nodes.items _ l _ (register_of c.self.inside.register) c.serve_at.new.nodes.items c.serve_at.new.net_line
    (register_of c.serve_at.new.register) is_line c.open.ensures.same w))
