use Rattle.std.proofs.Common.{◌≡◌, ℕ, ◌<◌, suc, ◌++◌, [], ◌∷◌, List, length, vec_len, slice_get, sym, ap, ◌∙◌, subst, arith}
use Rattle.link_timers.specs.declared.role.Role.TheVariants.{Dte, Dce}
use Rattle.net_events.specs.Network.{NetLine}
use Rattle.net_config.specs.NetPlan.{NewLine, NetPlan}
use Rattle.line_sim.specs.Making.{HaveBegun}
use Rattle.net_node.specs.Making.{AreNew}
use Rattle.net_events.proofs.Lists.{there, at_index}
use Rattle.line_sim.proofs.LinesBegin.{none_begun, ends_of, one_more, first_frames, begun_so_far, line_more}
use Rattle.line_sim.proofs.making.begin_lines.Goals as goal

pub loop-line-init : goal.loop-line-init
loop-line-init g c =
    let none = c.new-begun.ensures.len in
    record {
      nodes = subst (λ k. AreNew k c.args.plan.now c.args.nodes.now.items) (sym none) c.requires.made;
      lines = none_begun g.L.Line.service (vec_len c.new-begun.result) c.args.plan.now c.new-begun.result.items none c.new-begun.ensures.items;
      left = omega (arith, none, c.into_iter-line-iterator.ensures.into_iter_gives.1, c.requires.count);
    }

pub index-planned-requires : goal.index-planned-requires
index-planned-requires g c =
    let lines = ap (λ (p : NetPlan). length p.lines) c.plan.view_is in
    omega (arith, c.len-number.ensures, c.loop-line.invariant.left, c.in-Some.ensures.steps.1, lines)

pub begin-requires : goal.begin-requires
begin-requires g c =
    let h : c.len-number.result < length c.plan.inside.lines.items = (let lines = ap (λ (p : NetPlan). length p.lines) c.plan.view_is in omega (arith, c.len-number.ensures, c.loop-line.invariant.left, c.in-Some.ensures.steps.1, lines)) in
    let planned = ap (λ (p : NetPlan). slice_get p.lines (vec_len c.loop-line.begun)) (sym c.plan.view_is) ∙ ap (slice_get c.plan.inside.lines.items) (sym c.len-number.ensures)
    ∙ there c.plan.inside.lines.items c.len-number.result _ c.index-planned.result.now h c.index-planned.ensures in
    ends_of (vec_len c.loop-line.begun) c.args.plan.now c.loop-line.nodes.items c.index-planned.result.now c.requires.plan c.loop-line.invariant.nodes planned

pub loop-line-preserved : goal.loop-line-preserved
loop-line-preserved g c =
    let L = g.L.Line.service in
    let plan = c.args.plan.now in
    let k = vec_len c.loop-line.begun in
    let l = c.index-planned.result.now in
    let flights = g.L.Line.flights c.begin.new.line in
    let h : c.len-number.result < length c.plan.inside.lines.items = (let lines = ap (λ (p : NetPlan). length p.lines) c.plan.view_is in omega (arith, c.len-number.ensures, c.loop-line.invariant.left, c.in-Some.ensures.steps.1, lines)) in
    let planned = ap (λ (p : NetPlan). slice_get p.lines (vec_len c.loop-line.begun)) (sym c.plan.view_is) ∙ ap (slice_get c.plan.inside.lines.items) (sym c.len-number.ensures)
    ∙ there c.plan.inside.lines.items c.len-number.result _ c.index-planned.result.now h c.index-planned.ensures in
    let more : suc k ≡ vec_len c.push.new.self = (let e = c.in_ok-push.ensures.len in omega (arith, e)) in
    let pushed = c.in_ok-push.ensures.items ∙ ap (λ (x : NewLine). c.loop-line.begun.items ++ record { dte = x.dte; dce = x.dce; channels = x.params.channels; flights = flights } ∷ []) c.planned.view_is in
    let P : ℕ → Type 0 = λ n. AreNew n plan c.begin.new.nodes.items in
    let Q : ℕ → Type 0 = λ n. HaveBegun L 0 n plan c.push.new.self.items in
    let R : List NetLine → Type 0 = λ xs. HaveBegun L 0 (suc k) plan xs in
    let p = c.requires.plan.lines k l planned in
    let nodes = c.loop-line.nodes.items in
    let new = c.loop-line.invariant.nodes in
    let ends = ends_of k plan nodes l c.requires.plan new planned in
    let d = at_index nodes l.dte ends.dte in
    let e = at_index nodes l.dce ends.dce in
    let begins = c.in_ok-begin.ensures d.0 e.0 d.1 e.1 in
    record {
      nodes = subst P more (one_more L k plan nodes c.begin.new.nodes.items l d.0 e.0 flights c.requires.plan new planned d.1 e.1 begins);
      lines = subst Q more (subst R (sym pushed) (line_more L k plan c.loop-line.begun.items l flights p.dte p.dce p.dte_there p.dce_there c.loop-line.invariant.lines planned
          (λ f. begun_so_far L l p.dte p.dce d.0 e.0 nodes c.begin.new.nodes.items flights f p.kind
          (first_frames k plan nodes l new planned l.dte Dte p.dte d.0 p.dte_there p.dte_stands d.1)
          (first_frames k plan nodes l new planned l.dce Dce p.dce e.0 p.dce_there p.dce_stands e.1) begins)));
      left = omega (arith, c.in_ok-push.ensures.len, c.loop-line.invariant.left, c.in-Some.ensures.steps.1);
    }

pub returns-clause-nodes : goal.returns-clause-nodes
returns-clause-nodes g c =
    let all : vec_len c.loop-line.begun ≡ length c.args.plan.now.lines = omega (arith, c.loop-line.invariant.left, c.in-None.ensures.steps.0) in
    subst (λ k. AreNew k c.args.plan.now c.loop-line.nodes.items) all c.loop-line.invariant.nodes

pub returns-clause-lines : goal.returns-clause-lines
returns-clause-lines g c =
    let all : vec_len c.loop-line.begun ≡ length c.args.plan.now.lines = omega (arith, c.loop-line.invariant.left, c.in-None.ensures.steps.0) in
    subst (λ k. HaveBegun g.L.Line.service 0 k c.args.plan.now c.loop-line.begun.items) all c.loop-line.invariant.lines
