-- The first own lines are drained, and their frames are put and listed.
use Rattle.std.proofs.Common.{true, ◌≡◌, ◌≤◌, ◌*◌, length}
use Rattle.node_events.proofs.Switching.{drained_to, puts_to, PutTo}
use Rattle.node_events.proofs.putting.put_anew.Given as goal

abbrev pub invariant-loop-at : goal.invariant-loop-at
invariant-loop-at g l = record {
  switch_is : l.switch ≡ record l.initial.switch { lines = drained_to l.at l.initial.switch.lines };
  puts_are : l.puts.items ≡ puts_to l.at l.own l.initial.switch.lines;
  places : length l.puts.items ≤ 9 * l.at;
  capacity : l.puts.room ≡ l.initial.puts.room;
  lines_put : PutTo g.L.Line.service true l.own l.initial.switch l.at l.initial.lines.items l.lines.items;
}
