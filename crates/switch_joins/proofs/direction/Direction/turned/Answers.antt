use Rattle.std.proofs.Common.{sym, ap, ◌∙◌}
use Rattle.switch_joins.specs.Held.{HeldDirection}
use Rattle.switch_joins.proofs.Held.{held_gathering}
use Rattle.switch_joins.proofs.direction.Direction.turned.Goals as goal

pub octets-requires : goal.octets-requires
octets-requires c =
    held_gathering c.args.pool.now c.args.self.now.gathered c.in-Some.gathering
    (ap (λ (v : HeldDirection). v.gathered) (sym c.self.view_is) ∙ c.in-Some.is) c.requires
