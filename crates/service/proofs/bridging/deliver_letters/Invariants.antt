use Rattle.service.specs.AllBridges.{ServesBridges}
use Rattle.service.proofs.bridging.deliver_letters.Given as goal

abbrev pub invariant-loop : goal.invariant-loop
invariant-loop g l = ServesBridges g.L.Line.service l.any l.fn.exchange.net l.exchange.net l.fn.bridges.ports.items l.bridges.ports.items
