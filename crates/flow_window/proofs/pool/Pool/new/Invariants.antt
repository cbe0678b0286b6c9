use Rattle.std.proofs.Common.{◌≡◌, ◌≤◌, replicate, None}
use Rattle.std.specs.Vec.{vec_capacity}
use Rattle.flow_window.specs.PoolView.{AreSpare}
use Rattle.flow_window.proofs.pool.Pool.new.Given as goal

abbrev pub invariant-loop-number : goal.invariant-loop-number
invariant-loop-number l = record {
  slots : l.slots.items ≡ replicate l.number (record { size = l.size; content = None });
  spare : AreSpare l.spare.items (replicate l.number None);
  room : l.buffers ≤ vec_capacity l.spare;
}
