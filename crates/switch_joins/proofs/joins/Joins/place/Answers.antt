use Rattle.std.proofs.Common.{arith}
use Rattle.switch_joins.specs.Held.{plain}
use Rattle.switch_joins.proofs.Held.{plain_length}
use Rattle.switch_joins.proofs.Slots.{past_channels}
use Rattle.switch_joins.proofs.joins.Joins.place.Goals as goal

pub returns-else-place-len : goal.returns-else-place-len
returns-else-place-len c =
    let os = c.self.inside.places.items in
    let same = plain_length os in
    rw (← c.self.view_is) (past_channels (plain os) c.args.channel c.in_ok-place.place (omega arith) (omega arith) (omega (arith, same)))
