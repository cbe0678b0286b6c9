use Rattle.std.proofs.Common.{◌≡◌, ◌<◌, length, sym, ap, ◌∙◌, subst, arith}
use Rattle.std.specs.Prelude.{slice_get}
use Rattle.std.proofs.lemmas.Option.{same_Some}
use Rattle.packet_end.specs.Params.{AreParams}
use Rattle.net_events.specs.Network.{User}
use Rattle.net_config.specs.NetPlan.{NewNode, PlannedUser, HasEndAt, NewLine, NetPlan, IsNewDte}
use Rattle.net_events.specs.Opening.{new_node}
use Rattle.net_events.proofs.Lists.{within, found}
use Rattle.net_node.proofs.Plans.{dte_made}
use Rattle.net_node.proofs.making.new_user.Goals as goal

pub index-line-requires : goal.index-line-requires
index-line-requires c =
    let item = c.args.node.now in
    let plan = c.args.plan.now in
    let stands : HasEndAt plan.lines c.requires.there.place item.line = c.requires.plan.nodes c.requires.there.place (PlannedUser item) c.requires.there.there in
    let same = ap (λ (n : NewNode). n.line) c.node.view_is in
    let h : item.line < length plan.lines = within plan.lines item.line stands.line_is stands.there in
    let lines = ap (λ (p : NetPlan). length p.lines) c.plan.view_is in
    omega (arith, h, same, lines)

pub new_node-requires-clause-line : goal.new_node-requires-clause-line
new_node-requires-clause-line c =
    let item = c.args.node.now in
    let plan = c.args.plan.now in
    let stands : HasEndAt plan.lines c.requires.there.place item.line = c.requires.plan.nodes c.requires.there.place (PlannedUser item) c.requires.there.there in
    let same = ap (λ (n : NewNode). n.line) c.node.view_is in
    let line_there = ap (λ (p : NetPlan). slice_get p.lines c.node.inside.line) c.plan.view_is ∙ ap (slice_get plan.lines) same ∙ stands.there in
    let line = c.line.view_is ∙ found c.plan.inside.lines.items c.node.inside.line _ c.index-line.result.now stands.line_is (within c.plan.inside.lines.items c.node.inside.line stands.line_is line_there) c.index-line.ensures line_there in
    subst AreParams (ap (λ (l : NewLine). l.params) (sym line)) (c.requires.plan.lines item.line stands.line_is stands.there).params

pub new_node-requires-clause-dte : goal.new_node-requires-clause-dte
new_node-requires-clause-dte c =
    let item = c.args.node.now in
    let plan = c.args.plan.now in
    let stands : HasEndAt plan.lines c.requires.there.place item.line = c.requires.plan.nodes c.requires.there.place (PlannedUser item) c.requires.there.there in
    let same = ap (λ (n : NewNode). n.line) c.node.view_is in
    let line_there = ap (λ (p : NetPlan). slice_get p.lines c.node.inside.line) c.plan.view_is ∙ ap (slice_get plan.lines) same ∙ stands.there in
    let line = c.line.view_is ∙ found c.plan.inside.lines.items c.node.inside.line _ c.index-line.result.now stands.line_is (within c.plan.inside.lines.items c.node.inside.line stands.line_is line_there) c.index-line.ensures line_there in
    λ is. subst (λ (l : NewLine). IsNewDte item.as_dte l.params) (sym line) (dte_made plan c.requires.there.place item stands.line_is c.requires.plan c.requires.there.there stands.there is)

pub returns-clause-ok : goal.returns-clause-ok
returns-clause-ok c = λ l at.
    let item = c.args.node.now in
    let plan = c.args.plan.now in
    let stands : HasEndAt plan.lines c.requires.there.place item.line = c.requires.plan.nodes c.requires.there.place (PlannedUser item) c.requires.there.there in
    let same = ap (λ (n : NewNode). n.line) c.node.view_is in
    let line_there = ap (λ (p : NetPlan). slice_get p.lines c.node.inside.line) c.plan.view_is ∙ ap (slice_get plan.lines) same ∙ stands.there in
    let line = c.line.view_is ∙ found c.plan.inside.lines.items c.node.inside.line _ c.index-line.result.now stands.line_is (within c.plan.inside.lines.items c.node.inside.line stands.line_is line_there) c.index-line.ensures line_there in
    let own : stands.line_is ≡ l = same_Some stands.line_is l (sym stands.there ∙ at) in
    let node = c.in_ok-new_node.ensures.ok ∙ ap (λ (k : NewLine). new_node item k.params) (line ∙ own) in
    λ i. User (record { line = same i; node = node i })
