use Rattle.std.proofs.Common.{Ok, ◌≡◌, ap, ◌∙◌, slice_get}
use Rattle.std.specs.Result.{result_and}
use Rattle.net_events.specs.Network.{User, place_at}
use Rattle.user_nodes.specs.declared.attachment.Attachment.{Attachment}
use Rattle.net_events.proofs.Lists.{found, within}
use Rattle.net_nodes.proofs.Serving.{quiet_of, line_served_at}
use Rattle.net_nodes.proofs.nodes.turn.serve_at.Goals as goal

pub serve_line_of-requires-clause-quiet : goal.serve_line_of-requires-clause-quiet
serve_line_of-requires-clause-quiet g c = λ n is.
    let nodes = c.args.nodes.now.items in
    let at = c.attachment-at.result in
    let place : at.node ≡ place_at c.args.end.role c.args.net_line.now = ap (λ (x : Attachment). x.node) c.attachment-at.ensures in
    let here = ap (λ i. slice_get nodes i) place ∙ c.requires.there in
    quiet_of c.requires.node n c.index_mut.result.now
    (found nodes at.node _ c.index_mut.result.now (User c.requires.node) (within nodes at.node (User c.requires.node) here) c.index_mut.ensures.value here) is c.requires.quiet

pub returns-clause-done : goal.returns-clause-done
returns-clause-done g c = λ n there.
    let nodes = c.args.nodes.now.items in
    let l = c.args.net_line.now in
    let at = c.attachment-at.result in
    let place : at.node ≡ place_at c.args.end.role l = ap (λ (x : Attachment). x.node) c.attachment-at.ensures in
    let here = ap (λ i. slice_get nodes i) place ∙ there in
    let is : c.index_mut.result.now ≡ User n = found nodes at.node _ c.index_mut.result.now (User n) (within nodes at.node (User n) here) c.index_mut.ensures.value here in
    line_served_at g.L.Line.service c.args.end c.args.event.now n nodes _ l c.args.register.now at (result_and c.serve_line_of.result (Ok c.serve_line_of.new.answer))
    c.serve_line_of.new.node (g.L.Line.flights c.serve_line_of.new.line) c.serve_line_of.new.book.book c.attachment-at.ensures c.net_line.view_is
    c.requires.opened c.requires.book (c.serve_line_of.ensures.done n is)
