use Rattle.std.proofs.Common.{◌≡◌, ◌<◌, arith, ap, get_or, length, None}
use Rattle.std.proofs.lemmas.Grind.{common_steps}
use Rattle.std.proofs.lemmas.List.{get_or_default}
use Rattle.std.proofs.lemmas.List.Edits.{map_over_more}
use Rattle.link_timers.specs.Timers.{lowered, places}
use Rattle.link_timers.proofs.timers.Timers.elapse.Goals as goal

pub loop-left-preserved : goal.loop-left-preserved
loop-left-preserved c =
    let i = c.loop-left.left-index in
    let items = c.loop-left.left-items in
    let old = c.self.inside.left in
    let whole : length items ≡ places =
    grind (arith, common_steps, ap length c.loop-left.invariant, c.self.invariant) in
    let within : i < length items = omega (arith, c.loop-left-test.true) in
    rw c.lower_one.ensures
    (map_over_more (lowered c.args.ticks) old items i (get_or items i None) (omega (arith, c.self.invariant))
    c.loop-left.invariant (get_or_default items i None (get_or items i None) within))
