use Rattle.std.proofs.Common.{◌≡◌, ◌+◌, ◌≤◌, length}
use Rattle.user_nodes.specs.Node.{frames_of}
use Rattle.user_nodes.specs.NodeView.{node_of}
use Rattle.node_events.proofs.Sending.{Putting, with_frames}
use Rattle.node_events.proofs.send.put_frames.Given as goal

abbrev pub invariant-loop : goal.invariant-loop
invariant-loop g l = record {
  putting : Putting g.L.Line.service l.direction l.number (frames_of (node_of l.initial.node)) (g.L.Line.flights l.initial.line) l.puts.items (frames_of (node_of l.node)) (g.L.Line.flights l.line);
  node_is : node_of l.node ≡ with_frames (frames_of (node_of l.node)) (node_of l.initial.node);
  left : length (frames_of (node_of l.node)) + l.counter ≡ l.end;
  most : l.end ≤ 9;
  put : length l.puts.items ≡ l.counter;
  room : 9 ≤ l.puts.room;
  capacity : l.puts.room ≡ l.initial.puts.room;
}
