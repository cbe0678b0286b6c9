use Rattle.xot_gateway.specs.Connections.{elapsed}
use Rattle.xot_gateway.proofs.AllConnections.{ChangeBelow}
use Rattle.xot_gateway.proofs.calls.elapse_all.Given as goal

abbrev pub invariant-loop-number : goal.invariant-loop-number
invariant-loop-number l = ChangeBelow (elapsed l.ticks) l.number l.fn.connections.items l.connections.items
