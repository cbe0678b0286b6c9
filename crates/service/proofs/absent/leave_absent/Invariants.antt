use Rattle.service.specs.Absent.{LeavesPads}
use Rattle.service.proofs.absent.leave_absent.Given as goal

abbrev pub invariant-loop-pad : goal.invariant-loop-pad
invariant-loop-pad g l = LeavesPads g.L.Line.service l.pad-index l.pads l.places l.fn.exchange.net l.exchange.net
