use Rattle.std.proofs.Common.{Ok, slice_get, sym, ap, ◌∙◌, subst}
use Rattle.std.specs.Result.{result_and}
use Rattle.call_records.specs.RegisterView.{register_of}
use Rattle.net_events.specs.NodeEvents.{Restarts}
use Rattle.net_events.specs.declared.node_event.LineEvent.TheVariants as line_event
use Rattle.net_events.specs.Network.{NetLine, place_at}
use Rattle.net_nodes.specs.Places.{IsStanding, IsPlaceOf}
use Rattle.net_events.proofs.Lists.{found, within}
use Rattle.net_nodes.proofs.LineEndEvents.{can_serve, acts_anew, turned_from, same_place}
use Rattle.net_nodes.proofs.UserNodeEvents.{registered_at, quiet_at, at_end_of, began_anew}
use Rattle.net_nodes.proofs.nodes.Nodes.restart_user.Goals as goal

pub serve_at-requires : goal.serve_at-requires
serve_at-requires g c =
    let end = c.in_ok-end.end in
    let lines = c.self.inside.lines.items in
    let st = subst IsStanding (sym c.self.view_is) c.requires.standing in
    let p = subst (IsPlaceOf c.args.node end) (sym c.self.view_is) c.in_ok-end.ensures in
    let same = c.net_line.view_is ∙ found lines end.line _ c.index_mut-net_line.result.now p.line (within lines end.line p.line p.line_there) c.index_mut-net_line.ensures.value p.line_there in
    can_serve end c.self.inside.nodes.items p.line p.node (at_end_of c.args.node end _ p) (quiet_at c.args.node end _ st p) c.self.inside.register (registered_at end.line p.line _ st p.line_there) _ (g.L.Line.flights c.empty.new.self) c.open.new.self c.make_room.new.answer
    (ap (λ (x : NetLine). record x { flights = g.L.Line.flights c.empty.new.self }) same)
    c.open.ensures.same c.open.ensures.at c.open.ensures.book c.in_ok-open.ensures.room c.in_ok-open.ensures.pairs c.in_ok-make_room.ensures.empty

pub returns-clause-done : goal.returns-clause-done
returns-clause-done g c =
    let L = g.L.Line.service in
    let end = c.in_ok-end.end in
    let lines = c.self.inside.lines.items in
    let empty = g.L.Line.flights c.empty.new.self in
    let p = subst (IsPlaceOf c.args.node end) (sym c.self.view_is) c.in_ok-end.ensures in
    let same = c.net_line.view_is ∙ found lines end.line _ c.index_mut-net_line.result.now p.line (within lines end.line p.line p.line_there) c.index_mut-net_line.ensures.value p.line_there in
    let emptied = ap (λ (x : NetLine). record x { flights = empty }) same in
    let there = ap (λ i. slice_get c.self.inside.nodes.items i) (ap (place_at end.role) emptied ∙ same_place end.role p.line empty) ∙ at_end_of c.args.node end _ p in
    let w = c.serve_at.ensures.done p.node there in
    rw (← c.self.view_is)
    (began_anew L c.args.node end _ (result_and c.serve_at.result (Ok c.serve_at.new.answer)) _ p
    (acts_anew L end line_event.Restarts _ p.line p.node empty (result_and c.serve_at.result (Ok c.serve_at.new.answer)) c.serve_at.new.nodes.items
    c.serve_at.new.net_line (register_of c.serve_at.new.register) p.line_there (at_end_of c.args.node end _ p) c.empty.ensures
    (turned_from L end Restarts p.node (result_and c.serve_at.result (Ok c.serve_at.new.answer)) c.self.inside.nodes.items _ (record p.line { flights = empty }) _ (register_of c.self.inside.register) c.serve_at.new.nodes.items
    c.serve_at.new.net_line (register_of c.serve_at.new.register) emptied c.open.ensures.same w)
    ))
