use Rattle.std.proofs.Common.{◌≡◌, ◌+◌, ◌≤◌, ◌<◌, length}
use Rattle.net_events.specs.AtSwitch.{waiting_on}
use Rattle.node_events.proofs.SwitchSending.{PuttingOn, left_on}
use Rattle.node_events.proofs.putting.put_switch_frames.Given as goal

abbrev pub invariant-loop : goal.invariant-loop
invariant-loop g l = record {
  putting : PuttingOn g.L.Line.service l.number l.direction (waiting_on l.own l.initial.switch) (g.L.Line.flights l.initial.line) l.initial.puts.items l.puts.items (waiting_on l.own l.switch) (g.L.Line.flights l.line);
  switch_is : l.switch ≡ left_on l.own (waiting_on l.own l.switch) l.initial.switch;
  there : l.own < length l.switch.lines;
  left : length (waiting_on l.own l.switch) + l.counter ≡ l.end;
  most : l.end ≤ 9;
  put : length l.puts.items ≡ length l.initial.puts.items + l.counter;
  room : length l.initial.puts.items + 9 ≤ l.puts.room;
  capacity : l.puts.room ≡ l.initial.puts.room;
}
