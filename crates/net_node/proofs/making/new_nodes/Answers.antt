use Rattle.std.proofs.Common.{◌≡◌, ℕ, ◌+◌, suc, List, length, slice_get, refl, sym, ap, ◌∙◌, subst, arith}
use Rattle.net_events.specs.Network.{NetNode}
use Rattle.net_config.specs.NetPlan.{NetPlan}
use Rattle.net_events.proofs.Lists.{there}
use Rattle.net_node.proofs.NewNodes.{MadeTo, none_made, made_more, all_made}
use Rattle.net_node.proofs.making.new_nodes.Goals as goal

pub loop-place-init : goal.loop-place-init
loop-place-init c = none_made 0 c.args.plan.now c.new-nodes.result.items refl c.new-nodes.ensures.items

pub new_kind-requires-clause-there : goal.new_kind-requires-clause-there
new_kind-requires-clause-there c =
    let at = c.loop-place.place in
    let nodes = c.plan.inside.nodes.items in
    ap (λ (p : NetPlan). slice_get p.nodes at) (sym c.plan.view_is)
    ∙ there nodes at _ c.index.result.now (omega (arith, c.loop-place-test.true, c.loop-place.auto.place-end)) c.index.ensures

pub loop-place-preserved : goal.loop-place-preserved
loop-place-preserved c =
    let at = c.loop-place.place in
    let nodes = c.plan.inside.nodes.items in
    let item = c.index.result.now in
    let planned = ap (λ (p : NetPlan). slice_get p.nodes at) (sym c.plan.view_is)
    ∙ there nodes at _ item (omega (arith, c.loop-place-test.true, c.loop-place.auto.place-end)) c.index.ensures in
    let P : List NetNode → Type 0 = λ xs. MadeTo (suc at) c.args.plan.now xs in
    let M : ℕ → Type 0 = λ k. MadeTo k c.args.plan.now c.push.new.self.items in
    let next : suc at ≡ at + 1 = omega arith in
    subst M next (subst P (sym c.in_ok-push.ensures.items)
    (made_more at c.args.plan.now c.loop-place.nodes.items item _ c.loop-place.invariant planned c.in_ok-kind.ensures.ok))

pub returns-clause-ok : goal.returns-clause-ok
returns-clause-ok c =
    all_made c.loop-place.place c.args.plan.now c.loop-place.nodes.items c.loop-place.invariant
    (let h = ap (λ (p : NetPlan). length p.nodes) c.plan.view_is in omega (arith, h, c.loop-place-test.false, c.loop-place.auto.place-end))
