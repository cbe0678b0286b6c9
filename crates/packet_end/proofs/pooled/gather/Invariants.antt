use Rattle.std.proofs.Common.{◌≡◌, ◌≤◌, ◌+◌, ◌++◌, length}
use Rattle.packet_layer.specs.Layer.{unread}
use Rattle.packet_end.proofs.pooled.gather.Given as goal

abbrev pub invariant-loop : goal.invariant-loop
invariant-loop l = record {
  end : l.end ≡ length l.fn.layer.layer.notes;
  most : l.end ≤ 32;
  left : length l.layer.layer.notes + l.counter ≡ l.end;
  taken : length l.notes ≤ length l.fn.notes + l.counter;
  notes : l.notes ++ l.layer.layer.notes ≡ l.fn.notes ++ l.fn.layer.layer.notes;
  layer : unread l.layer.layer ≡ unread l.fn.layer.layer;
  held : l.layer.held ≡ l.fn.layer.held;
}
