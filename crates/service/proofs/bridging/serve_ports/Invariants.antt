use Rattle.service.specs.AllBridges.{ServesBridges}
use Rattle.service.proofs.bridging.serve_ports.Given as goal

abbrev pub invariant-loop-place : goal.invariant-loop-place
invariant-loop-place g l = ServesBridges g.L.Line.service l.any l.fn.exchange.net l.exchange.net l.fn.bridges.ports.items l.bridges.ports.items
