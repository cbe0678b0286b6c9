use Rattle.std.proofs.Common.{◌≡◌, replicate}
use Rattle.xot_gateway.specs.Connections.{absent}
use Rattle.xot_gateway.proofs.calls.new_connections.Given as goal

abbrev pub invariant-loop : goal.invariant-loop
invariant-loop l = l.connections.items ≡ replicate l.counter absent
