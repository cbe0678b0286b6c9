use Rattle.std.proofs.Common.{arith}
use Rattle.std.proofs.lemmas.List.Edits.{map_over_more}
use Rattle.net_events.specs.Network.{elapsed_node}
use Rattle.net_nodes.proofs.nodes.Nodes.elapse.Goals as goal

pub loop-node-preserved : goal.loop-node-preserved
loop-node-preserved g c =
    rw (c.elapse.ensures, ← c.node-item.is)
    (map_over_more (elapsed_node c.args.ticks) c.deref_mut-node-items.result.now c.loop-node.node-items c.loop-node.node-index
    c.node-item.result (omega arith) c.loop-node.invariant c.node-item.is)
