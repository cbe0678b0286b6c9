-- So many were dropped so far.
use Rattle.std.proofs.Common.{◌≡◌, drop}
use Rattle.std.specs.Prelude.{vec_capacity}
use Rattle.pad_ports.proofs.note.drop_front.Given as goal

abbrev pub invariant-loop : goal.invariant-loop
invariant-loop l = record {
  items : l.list.items ≡ drop l.counter l.fn.list.items;
  capacity : vec_capacity l.list ≡ vec_capacity l.fn.list;
}
