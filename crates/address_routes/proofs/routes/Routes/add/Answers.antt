use Rattle.std.proofs.Common.{◌≡◌, ap, sym, ◌∙◌, refl, arith, rules}
use Rattle.std.specs.FinMap.{insert, len}
use Rattle.address_routes.specs.declared.fault.RouteFault.TheVariants.{Duplicate, Full}
use Rattle.address_routes.proofs.Walks.{walk_within}
use Rattle.address_routes.proofs.Growing.{linked}
use Rattle.address_routes.proofs.Adding.{routed, duplicate, full, no_fault, says, says_none, decimal_rest, last_there, made}
use Rattle.address_routes.proofs.routes.Routes.add.Goals as goal

pub walk-walk-requires-clause-linked : goal.walk-walk-requires-clause-linked
walk-walk-requires-clause-linked c = linked _ _ c.self.invariant.tree

pub returns-then-is_some-clause-faults : goal.returns-then-is_some-clause-faults
returns-then-is_some-clause-faults c =
    let digits = c.digits-digits.ensures in
    let known =
    routed c.self.inside.tree.nodes.items c.args.self.now c.digits-digits.result.now c.args.prefix.now
    c.walk-walk.result.whole c.self.view_is digits.value digits.fits c.walk-walk.ensures.whole in
    says _ Duplicate _ _ (duplicate c.args.self.now c.args.prefix.now (known ∙ sym c.if-is_some.ensures)) refl

pub returns-then-self-ge-MAX_ROUTES-clause-faults : goal.returns-then-self-ge-MAX_ROUTES-clause-faults
returns-then-self-ge-MAX_ROUTES-clause-faults c =
    let digits = c.digits-digits.ensures in
    let known =
    routed c.self.inside.tree.nodes.items c.args.self.now c.digits-digits.result.now c.args.prefix.now
    c.walk-walk.result.whole c.self.view_is digits.value digits.fits c.walk-walk.ensures.whole in
    let count : len c.args.self.now ≡ c.self.inside.count =
    ap len (sym c.self.view_is) ∙ c.self.invariant.counted in
    says _ Full _ _ (full c.args.self.now c.args.prefix.now (known ∙ sym c.if-is_some.ensures) (omega arith)) refl

pub add_nodes-requires-clause-node_in : goal.add_nodes-requires-clause-node_in
add_nodes-requires-clause-node_in c =
    walk_within c.self.inside.tree.nodes.items (linked _ _ c.self.invariant.tree) _ 0 c.walk-walk.result.node.0
    c.self.invariant.tree.some c.walk-walk.ensures.reached

pub add_nodes-requires-clause-decimal : goal.add_nodes-requires-clause-decimal
add_nodes-requires-clause-decimal c =
    let digits = c.digits-digits.ensures in
    decimal_rest c.digits-digits.result.now c.args.prefix.now c.walk-walk.result.digits digits.value digits.fits

pub returns-in_err-node-clause-faults : goal.returns-in_err-node-clause-faults
returns-in_err-node-clause-faults c =
    let digits = c.digits-digits.ensures in
    let known =
    routed c.self.inside.tree.nodes.items c.args.self.now c.digits-digits.result.now c.args.prefix.now
    c.walk-walk.result.whole c.self.view_is digits.value digits.fits c.walk-walk.ensures.whole in
    let count : len c.args.self.now ≡ c.self.inside.count =
    ap len (sym c.self.view_is) ∙ c.self.invariant.counted in
    let none = no_fault c.args.self.now c.args.prefix.now (known ∙ sym c.if-is_some.ensures) (omega arith) in
    says_none _ _ c.from_residual.result none (search rules)

pub set_line-requires : goal.set_line-requires
set_line-requires c =
    let digits = c.digits-digits.ensures in
    let walked = c.walk-walk.ensures in
    let added = c.in_ok-node.ensures in
    last_there c.self.inside.tree.nodes.items c.add_nodes.new.self.nodes.items c.self.inside.count
    c.digits-digits.result.now c.args.prefix.now c.walk-walk.result.digits c.walk-walk.result.node.0
    c.in_ok-node.node.0 c.self.invariant digits.value digits.fits
    (record { reached = walked.reached; within = walked.within; last = walked.last }) added.nodes added.end

pub invariant_of-self-2 : goal.invariant_of-self-2
invariant_of-self-2 c =
    let digits = c.digits-digits.ensures in
    let walked = c.walk-walk.ensures in
    let added = c.in_ok-node.ensures in
    let all =
    made c.self.inside.tree.nodes.items c.add_nodes.new.self.nodes.items c.set_line.new.self.nodes.items
    c.self.inside.count c.digits-digits.result.now c.args.prefix.now c.walk-walk.result.digits
    c.walk-walk.result.node.0 c.in_ok-node.node.0 c.args.line c.walk-walk.result.whole c.self.invariant
    digits.value digits.fits
    (record { reached = walked.reached; within = walked.within; last = walked.last })
    walked.whole (sym c.if-is_some.ensures) (omega arith) added.nodes added.end c.set_line.ensures in
    all.are

pub returns-clause-faults : goal.returns-clause-faults
returns-clause-faults c =
    let digits = c.digits-digits.ensures in
    let known =
    routed c.self.inside.tree.nodes.items c.args.self.now c.digits-digits.result.now c.args.prefix.now
    c.walk-walk.result.whole c.self.view_is digits.value digits.fits c.walk-walk.ensures.whole in
    let count : len c.args.self.now ≡ c.self.inside.count =
    ap len (sym c.self.view_is) ∙ c.self.invariant.counted in
    says_none _ _ _ (no_fault c.args.self.now c.args.prefix.now (known ∙ sym c.if-is_some.ensures) (omega arith)) tt

pub returns-clause-ok : goal.returns-clause-ok
returns-clause-ok c =
    let digits = c.digits-digits.ensures in
    let walked = c.walk-walk.ensures in
    let added = c.in_ok-node.ensures in
    let all =
    made c.self.inside.tree.nodes.items c.add_nodes.new.self.nodes.items c.set_line.new.self.nodes.items
    c.self.inside.count c.digits-digits.result.now c.args.prefix.now c.walk-walk.result.digits
    c.walk-walk.result.node.0 c.in_ok-node.node.0 c.args.line c.walk-walk.result.whole c.self.invariant
    digits.value digits.fits
    (record { reached = walked.reached; within = walked.within; last = walked.last })
    walked.whole (sym c.if-is_some.ensures) (omega arith) added.nodes added.end c.set_line.ensures in
    all.map ∙ ap (λ routes. insert routes c.args.prefix.now c.args.line.0) c.self.view_is
