use Rattle.std.proofs.Common.{length}
use Rattle.net_process.specs.Carrying.{frames_at}
use Rattle.net_process.proofs.Sending.{HasLess}
use Rattle.net_process.proofs.carrying.lose_all.Given as goal

abbrev pub invariant-loop-direction : goal.invariant-loop-direction
invariant-loop-direction g l = HasLess l.line l.direction l.fn.part l.part

abbrev pub decreases-loop-direction : goal.decreases-loop-direction
decreases-loop-direction g l = length (frames_at l.line l.direction l.part)
