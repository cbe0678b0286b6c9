use Rattle.std.proofs.Common.{true}
use Rattle.service.specs.Bridging.{Carries}
use Rattle.service.proofs.exchange.Exchange.take_some.Given as goal

abbrev pub invariant-loop : goal.invariant-loop
invariant-loop g l = Carries g.L.Line.service l.at true l.fn.self.net l.self.net l.fn.bridge l.bridge
