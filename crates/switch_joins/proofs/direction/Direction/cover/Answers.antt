use Rattle.std.proofs.Common.{◌-◌, ◌<◌, arith, get_or, length}
use Rattle.std.proofs.lemmas.List.{get_or_default}
use Rattle.std.proofs.lemmas.List.Edits.{map_over_more}
use Rattle.switch_joins.proofs.direction.Direction.cover.Goals as goal

pub loop-uncovered-preserved : goal.loop-uncovered-preserved
loop-uncovered-preserved c =
    let i = c.loop-uncovered.uncovered-index in
    let items = c.loop-uncovered.uncovered-items in
    let within : i < length items = omega (arith, c.loop-uncovered.auto.uncovered-items, c.loop-uncovered-test.true) in
    rw c.saturating_sub.ensures
    (map_over_more (λ h. h - c.args.count) c.deref_mut-uncovered-items.result.now items i (get_or items i 0) (omega arith) c.loop-uncovered.invariant (get_or_default items i 0 (get_or items i 0) within))
