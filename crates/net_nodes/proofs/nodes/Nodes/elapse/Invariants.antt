-- The nodes so far have less time left.
use Rattle.std.proofs.Common.{◌≡◌, ◌++◌, map, take, drop}
use Rattle.net_events.specs.Network.{elapsed_node}
use Rattle.net_nodes.proofs.nodes.Nodes.elapse.Given as goal

abbrev pub invariant-loop-node : goal.invariant-loop-node
invariant-loop-node g l =
    l.node-items ≡ map (elapsed_node l.ticks) (take l.node-index l.initial.node-items) ++ drop l.node-index l.initial.node-items
