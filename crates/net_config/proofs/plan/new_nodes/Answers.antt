use Rattle.std.proofs.lemmas.Grind.{common_steps}
use Rattle.std.proofs.Common.{refl, sym, ap, ◌∙◌, arith}
use Rattle.std.specs.Prelude.{slice_get}
use Rattle.std.proofs.lemmas.Option.{slice_get_read}
use Rattle.net_config.proofs.Naming.{served_node}
use Rattle.net_config.proofs.Planning.{most_lines}
use Rattle.net_config.proofs.plan.new_nodes.Goals as goal

pub planned_node-requires-clause-kind : goal.planned_node-requires-clause-kind
planned_node-requires-clause-kind c =
    let at = c.loop-node.node-index in
    let item = c.node-item.result in
    let there = slice_get_read c.deref-node-items.result.now _ at item refl c.loop-node-test.true c.node-item.is in
    (served_node c.args.config.now c.requires at item (sym (ap (λ xs. slice_get xs at) c.deref-node-items.ensures.value) ∙ there)).kind

pub planned_node-requires-clause-lines : goal.planned_node-requires-clause-lines
planned_node-requires-clause-lines c =
    let at = c.loop-node.node-index in
    let item = c.node-item.result in
    let there = slice_get_read c.deref-node-items.result.now _ at item refl c.loop-node-test.true c.node-item.is in
    most_lines c.args.config.now c.requires at item (sym (ap (λ xs. slice_get xs at) c.deref-node-items.ensures.value) ∙ there)

pub loop-node-preserved : goal.loop-node-preserved
loop-node-preserved c = grind (arith, common_steps)

pub returns-clause-ok : goal.returns-clause-ok
returns-clause-ok c = grind (arith, common_steps)
