-- The timers so far that have no ticks left are in the list.
use Rattle.std.proofs.Common.{◌≡◌, ◌≤◌, ◌++◌, drop}
use Rattle.arrayvec.specs.ArrayVec.{array_vec_len}
use Rattle.link_timers.specs.Timers.{due_from}
use Rattle.link_timers.proofs.timers.Timers.tick.Given as goal

abbrev pub invariant-loop-place : goal.invariant-loop-place
invariant-loop-place l = record {
  few : array_vec_len l.due ≤ l.place;
  due : l.due.items ++ due_from l.place (drop l.place l.left-items) ≡ due_from 0 l.left-items;
}
