-- The lines so far are read.
use Rattle.service.proofs.ServedLines.{ServesAll}
use Rattle.service.proofs.exchange.Exchange.read_lines.Given as goal

abbrev pub invariant-loop-place : goal.invariant-loop-place
invariant-loop-place g l = ServesAll g.L.Line.service l.initial.self.net l.self.net
