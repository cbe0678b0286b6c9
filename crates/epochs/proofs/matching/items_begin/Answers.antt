use Rattle.std.proofs.Common.{◌≡◌, refl, sym, ap, ◌∙◌}
use Rattle.epochs.specs.Item.{all_items}
use Rattle.epochs.specs.Matching.Items.{items_left}
use Rattle.epochs.proofs.ListPrefixes.{prefix-none, prefix-along}
use Rattle.epochs.proofs.matching.items_begin.Goals as goal

pub returns : goal.returns
returns c =
    let taken : items_left c.into_iter-item-iterator.result ≡ all_items c.args.packets =
    ap items_left c.into_iter-item-iterator.ensures.into_iter_gives ∙ c.new-item-items.ensures in
    let none = c.in-None.ensures.steps.0 in
    let left = prefix-along (sym none) refl (prefix-none (items_left c.loop-item.other_items)) in
    (λ t. prefix-along taken c.new-other_items.ensures (c.loop-item.invariant.same.1 left), λ p. refl)
