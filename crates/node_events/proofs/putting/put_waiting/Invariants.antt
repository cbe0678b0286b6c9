-- The own lines before one of them are drained, and their frames are put and listed.
use Rattle.std.proofs.Common.{ℕ, ◌≡◌, length}
use Rattle.node_events.proofs.Waiting.{PutBefore}
use Rattle.node_events.proofs.putting.put_waiting.Given as goal

abbrev pub invariant-loop-at : goal.invariant-loop-at
invariant-loop-at g l = record {
  put : (at : ℕ) × PutBefore g.L.Line.service l.own l.initial.switch l.switch l.waiting l.puts.items (length l.puts.items) l.initial.lines.items l.lines.items at;
  capacity : l.puts.room ≡ l.initial.puts.room;
}

abbrev pub decreases-loop-at : goal.decreases-loop-at
decreases-loop-at g l = l.waiting.bits
