use Rattle.std.proofs.Common.{Ok, ◌≡◌, ◌<◌, length, ap, ◌∙◌, sym, slice_get, subst}
use Rattle.std.specs.Result.{result_and}
use Rattle.call_records.specs.RegisterView.{register_of}
use Rattle.net_events.specs.EventView.{user_event_of}
use Rattle.net_events.specs.Network.{User, place_at}
use Rattle.user_nodes.specs.declared.attachment.Attachment.{Attachment}
use Rattle.node_events.specs.Users.{user_fault}
use Rattle.net_events.proofs.Lists.{found, within}
use Rattle.net_nodes.proofs.Serving.{quiet_of, user_served_at}
use Rattle.net_nodes.proofs.nodes.turn.serve_user_at.Goals as goal

pub serve_user_of-requires-clause-there : goal.serve_user_of-requires-clause-there
serve_user_of-requires-clause-there g c =
    subst (λ (x : Attachment). x.line < length c.args.register.now.lines.items) (sym c.attachment-at.ensures) c.requires.can.line

pub serve_user_of-requires-clause-quiet : goal.serve_user_of-requires-clause-quiet
serve_user_of-requires-clause-quiet g c = λ n is.
    let nodes = c.args.nodes.now.items in
    let at = c.attachment-at.result in
    let place : at.node ≡ place_at c.args.end.role c.args.net_line.now = ap (λ (x : Attachment). x.node) c.attachment-at.ensures in
    let here = ap (λ i. slice_get nodes i) place ∙ c.requires.can.there in
    quiet_of c.requires.can.node n c.index_mut.result.now
    (found nodes at.node _ c.index_mut.result.now (User c.requires.can.node) (within nodes at.node (User c.requires.can.node) here) c.index_mut.ensures.value here) is c.requires.can.quiet

pub returns-clause-done : goal.returns-clause-done
returns-clause-done g c = λ n there.
    let nodes = c.args.nodes.now.items in
    let l = c.args.net_line.now in
    let at = c.attachment-at.result in
    let place : at.node ≡ place_at c.args.end.role l = ap (λ (x : Attachment). x.node) c.attachment-at.ensures in
    let here = ap (λ i. slice_get nodes i) place ∙ there in
    let is : c.index_mut.result.now ≡ User n = found nodes at.node _ c.index_mut.result.now (User n) (within nodes at.node (User n) here) c.index_mut.ensures.value here in
    user_served_at g.L.Line.service c.args.end (user_event_of c.args.event.now) (user_fault l.channels c.args.event.now n.node) n nodes l (register_of c.args.register.now) at
    (result_and c.serve_user_of.result (Ok c.serve_user_of.new.answer)) c.serve_user_of.new.node c.serve_user_of.new.net_line (register_of c.serve_user_of.new.register)
    c.attachment-at.ensures there c.serve_user_of.ensures.line (c.serve_user_of.ensures.served n is)
