use Rattle.std.proofs.Common.{sym, ap, ◌∙◌}
use Rattle.switch_joins.specs.Held.{HeldDirection}
use Rattle.switch_joins.proofs.Held.{held_gathering}
use Rattle.switch_joins.proofs.direction.Direction.drop_gathered.Goals as goal

pub free-requires : goal.free-requires
free-requires c =
    held_gathering c.args.pool.now c.args.self.now.gathered c.in-Some.gathering
    (ap (λ (v : HeldDirection). v.gathered) (sym c.self.view_is) ∙ sym c.take.ensures.value ∙ c.in-Some.is) c.requires
