use Rattle.xot_gateway.specs.Connections.{restarted}
use Rattle.xot_gateway.proofs.AllConnections.{ChangeBelow}
use Rattle.xot_gateway.proofs.calls.restart_all.Given as goal

abbrev pub invariant-loop-number : goal.invariant-loop-number
invariant-loop-number l = ChangeBelow (restarted l.line) l.number l.fn.connections.items l.connections.items
