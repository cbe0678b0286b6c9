use Rattle.std.proofs.Common.{sym, ap, ◌∙◌}
use Rattle.switch_joins.specs.Held.{HeldDirection}
use Rattle.switch_joins.proofs.Held.{held_gathering}
use Rattle.switch_joins.proofs.direction.Direction.due.Goals as goal

pub octets-gathered-requires : goal.octets-gathered-requires
octets-gathered-requires c =
    held_gathering c.args.pool.now c.args.self.now.gathered c.in-Some.gathering
    (ap (λ (v : HeldDirection). v.gathered) (sym c.self.view_is) ∙ c.in-Some.is) c.requires
