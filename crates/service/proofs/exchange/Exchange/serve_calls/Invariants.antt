use Rattle.service.specs.AllBridges.{ServesBridges}
use Rattle.service.proofs.exchange.Exchange.serve_calls.Given as goal

abbrev pub invariant-loop-host : goal.invariant-loop-host
invariant-loop-host g l = ServesBridges g.L.Line.service l.any l.fn.self.net l.self.net l.bridges.ports.items l.bridges.ports.items

abbrev pub invariant-loop-place : goal.invariant-loop-place
invariant-loop-place g l = ServesBridges g.L.Line.service l.any l.fn.self.net l.self.net l.bridges.ports.items l.bridges.ports.items
