use Rattle.service.specs.Serving.{DeliversBelow}
use Rattle.service.proofs.exchange.Exchange.deliver_frames.Given as goal

abbrev pub invariant-loop-line : goal.invariant-loop-line
invariant-loop-line g l = DeliversBelow g.L.Line.service l.line l.any l.fn.self.net l.self.net
