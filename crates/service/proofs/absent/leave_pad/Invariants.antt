use Rattle.service.specs.Absent.{LeavesBelow}
use Rattle.service.proofs.absent.leave_pad.Given as goal

abbrev pub invariant-loop-number : goal.invariant-loop-number
invariant-loop-number g l = LeavesBelow g.L.Line.service l.pad.node l.number l.places l.fn.exchange.net l.exchange.net
