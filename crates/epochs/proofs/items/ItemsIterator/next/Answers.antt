use Rattle.std.proofs.Common.{◌≡◌, [], refl, sym, ap, ◌∙◌}
use Rattle.epochs.specs.Item.{all_items}
use Rattle.epochs.proofs.items.ItemsIterator.next.Goals as goal

pub returns-in_err-self-clause-steps : goal.returns-in_err-self-clause-steps
returns-in_err-self-clause-steps c =
    let hand = c.in_default.ensures.item in
    let left = c.in_err-self.ensures.steps in
    let old : all_items c.loop-item.self.packets ≡ [] = ap all_items (sym c.in_default.ensures.packets ∙ left.0) in
    let new : all_items c.next.new.self ≡ [] = ap all_items left.1 in
    rw c.from_residual.ensures (c.loop-item.invariant ∙ rw (hand.0, old) refl, rw (hand.1, hand.0, new) refl)
