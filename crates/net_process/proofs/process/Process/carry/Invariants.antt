-- The lines so far are settled.
use Rattle.std.proofs.Common.{◌≡◌, length}
use Rattle.net_process.specs.Carrying.{settled_below}
use Rattle.net_process.proofs.process.Process.carry.Given as goal

abbrev pub invariant-loop-place : goal.invariant-loop-place
invariant-loop-place g l =
    (l.self ≡ settled_below l.place l.initial.self) × (length l.self.lines ≡ length l.initial.self.lines)
