-- At the nodes so far no timer is due.
use Rattle.std.proofs.Common.{◌≡◌, drop}
use Rattle.net_events.specs.NextDue.{due_from}
use Rattle.net_node.proofs.node.first_node_due.Given as goal

abbrev pub invariant-loop-place : goal.invariant-loop-place
invariant-loop-place l = due_from 0 l.nodes ≡ due_from l.place (drop l.place l.nodes)
