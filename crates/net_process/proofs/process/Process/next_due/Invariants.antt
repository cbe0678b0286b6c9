-- Nothing is due at the nodes so far.
use Rattle.std.proofs.Common.{◌≡◌, ℕ, ◌<◌, None}
use Rattle.net_process.specs.Process.{due_here}
use Rattle.net_process.proofs.process.Process.next_due.Given as goal

abbrev pub invariant-loop-place : goal.invariant-loop-place
invariant-loop-place g l = (place : ℕ) → place < l.place → due_here l.self place ≡ None
