use Rattle.std.proofs.Common.{◌≡◌, ◌+◌, ◌++◌, length, vec_len, vec_capacity}
use Rattle.std.specs.Vec.Iter.{into_iter_items}
use Rattle.epochs.proofs.spare.drop_spare.Given as goal

abbrev pub invariant-loop-item : goal.invariant-loop-item
invariant-loop-item g l = record {
  can_next : (goal.iterator-loop-item g).can_next l.item-iterator;
  is_finite : (goal.iterator-loop-item g).is_finite l.item-iterator;
  items : l.list.items ++ into_iter_items l.item-iterator ≡ into_iter_items l.initial.item-iterator;
  len : vec_len l.list + length (into_iter_items l.item-iterator) ≡ vec_capacity l.list;
  capacity : vec_capacity l.list ≡ vec_capacity l.initial.list;
}
