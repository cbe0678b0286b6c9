use Rattle.std.proofs.Common.{◌↔◌}
use Rattle.epochs.specs.Prefix.{IsListPrefix}
use Rattle.epochs.specs.Item.{Item}
use Rattle.epochs.specs.Matching.Items.{items_left}
use Rattle.epochs.proofs.matching.items_begin.Given as goal

-- what is left is to be a prefix of what is left
abbrev pub invariant-loop-item : goal.invariant-loop-item
invariant-loop-item l = record {
  can : (goal.iterator-loop-item).can_next l.item-iterator;
  finite : (goal.iterator-loop-item).is_finite l.item-iterator;
  same : IsListPrefix Item (items_left l.initial.item-iterator) (items_left l.initial.other_items)
      ↔ IsListPrefix Item (items_left l.item-iterator) (items_left l.other_items);
}
