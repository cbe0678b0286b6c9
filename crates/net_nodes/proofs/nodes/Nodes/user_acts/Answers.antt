use Rattle.std.proofs.Common.{Ok, ◌≡◌, sym, ap, ◌∙◌, subst, slice_get}
use Rattle.std.specs.Prelude.{MatchResult, None}
use Rattle.std.specs.Result.{result_and}
use Rattle.call_records.specs.RegisterView.{register_of}
use Rattle.net_events.specs.EventView.{user_event_of}
use Rattle.net_events.specs.Network.{NetLine, place_at}
use Rattle.node_events.specs.Users.{IsRefusedWith, user_fault}
use Rattle.net_nodes.specs.Turns.{CanAct, HadTurn}
use Rattle.net_events.proofs.Lists.{found, within}
use Rattle.net_nodes.proofs.LineEndEvents.{can_serve_user, user_acts}
use Rattle.net_nodes.proofs.nodes.Nodes.user_acts.Goals as goal

pub serve_user_at-requires-clause-can : goal.serve_user_at-requires-clause-can
serve_user_at-requires-clause-can g c =
    let end = c.args.end in
    let lines = c.self.inside.lines.items in
    let can = subst (CanAct end) (sym c.self.view_is) c.requires.can in
    can_serve_user end c.self.inside.nodes.items can.line can.node can.node_there can.quiet c.self.inside.register can.registered c.index_mut.result.now
    (found lines end.line _ _ can.line (within lines end.line can.line can.line_there) c.index_mut.ensures.value can.line_there)

pub returns-clause-done : goal.returns-clause-done
returns-clause-done g c =
    let L = g.L.Line.service in
    let end = c.args.end in
    let event = c.args.event.now in
    let lines = c.self.inside.lines.items in
    let nodes = c.self.inside.nodes.items in
    let r = result_and c.serve_user_at.result (Ok c.serve_user_at.new.answer) in
    rw (← c.self.view_is)
    (λ l n line_there node_there.
    let is_line : c.index_mut.result.now ≡ l = found lines end.line _ _ l (within lines end.line l line_there) c.index_mut.ensures.value line_there in
    let w = c.serve_user_at.ensures.done n (ap (λ (x : NetLine). slice_get nodes (place_at end.role x)) is_line ∙ node_there) in
    let P : NetLine → Type 0 = λ x. MatchResult r
    (λ a. (user_fault x.channels event n.node ≡ None) × HadTurn L end (user_event_of event) n nodes x (register_of c.self.inside.register) a c.serve_user_at.new.nodes.items c.serve_user_at.new.net_line (register_of c.serve_user_at.new.register))
    (λ fault. IsRefusedWith (user_fault x.channels event n.node) fault × (c.serve_user_at.new.nodes.items ≡ nodes) × (c.serve_user_at.new.net_line ≡ x) × (register_of c.serve_user_at.new.register ≡ register_of c.self.inside.register)) in
    user_acts L end event _ l n r c.serve_user_at.new.nodes.items c.serve_user_at.new.net_line (register_of c.serve_user_at.new.register)
    line_there node_there c.requires.whole (subst P is_line w))
