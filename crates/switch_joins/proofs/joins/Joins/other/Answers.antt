use Rattle.std.proofs.Common.{ap, ◌∙◌}
use Rattle.std.specs.Option.{option_map}
use Rattle.switch_joins.specs.Joins.{Joined}
use Rattle.switch_joins.proofs.Held.{own_place, own_nth}
use Rattle.switch_joins.proofs.joins.Joins.other.Goals as goal

pub returns : goal.returns
returns c =
    let os = c.self.inside.places.items in
    let x = c.args.self.now in
    let i = c.in_ok-place.place in
    let o = c.index.result.now in
    c.other.ensures
    ∙ ap (λ p. option_map (λ (j : Joined). j.other) p)
    (own_nth os x i c.args.channel o c.self.view_is c.in_ok-place.ensures.0 (own_place os x i o c.self.view_is c.in_ok-place.ensures.1 c.index.ensures))
