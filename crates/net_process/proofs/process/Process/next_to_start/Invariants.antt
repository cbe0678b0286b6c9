-- The nodes so far may not start.
use Rattle.std.proofs.Common.{◌≡◌, ℕ, ◌<◌, false}
use Rattle.net_process.specs.Process.{may_start}
use Rattle.net_process.proofs.process.Process.next_to_start.Given as goal

abbrev pub invariant-loop-node : goal.invariant-loop-node
invariant-loop-node g l = (node : ℕ) → node < l.node → may_start l.self node ≡ false
