-- The nodes so far are made.
use Rattle.net_node.proofs.NewNodes.{MadeTo}
use Rattle.net_node.proofs.making.new_nodes.Given as goal

abbrev pub invariant-loop-place : goal.invariant-loop-place
invariant-loop-place l = MadeTo l.place l.plan l.nodes.items
