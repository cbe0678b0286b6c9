use Rattle.std.proofs.Common.{◌≡◌, length}
use Rattle.epochs.specs.Matching.Items.{items_left}
use Rattle.epochs.proofs.items.ItemsIterator.next.Given as goal

abbrev pub invariant-loop-item : goal.invariant-loop-item
invariant-loop-item l = items_left l.initial.self ≡ items_left l.self

abbrev pub decreases-loop-item : goal.decreases-loop-item
decreases-loop-item l = length l.self.packets
