use Rattle.std.proofs.Common.{length}
use Rattle.net_process.specs.Carrying.{frames_at}
use Rattle.net_process.proofs.Sending.{IsSending}
use Rattle.net_process.proofs.carrying.send_all.Given as goal

abbrev pub invariant-loop-direction : goal.invariant-loop-direction
invariant-loop-direction g l = IsSending l.line l.direction l.fn.part l.fn.remote l.part l.remote

abbrev pub decreases-loop-direction : goal.decreases-loop-direction
decreases-loop-direction g l = length (frames_at l.line l.direction l.part)
