use Rattle.std.proofs.Common.{◌≡◌, map, take}
use Rattle.net_config.specs.Plan.{planned_node}
use Rattle.net_config.proofs.plan.new_nodes.Given as goal

abbrev pub invariant-loop-node : goal.invariant-loop-node
invariant-loop-node l =
    l.nodes.items ≡ map (planned_node l.fn.config) (take l.node-index l.node-items)
