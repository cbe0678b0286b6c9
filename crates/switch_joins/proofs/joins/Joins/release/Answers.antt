use Rattle.std.proofs.Common.{ap, ◌∙◌}
use Rattle.std.specs.Option.{option_map}
use Rattle.switch_joins.specs.Direction.{releasable, released}
use Rattle.switch_joins.specs.Joins.{Joined}
use Rattle.switch_joins.proofs.Held.{own_place, own_nth, own_same}
use Rattle.switch_joins.proofs.joins.Joins.release.Goals as goal

pub returns-clause-count : goal.returns-clause-count
returns-clause-count c =
    let os = c.self.inside.places.items in
    let x = c.args.self.now in
    let i = c.in_ok-place.place in
    let old = c.index_mut.result.now in
    c.release.ensures.count
    ∙ ap (λ p. option_map (λ (j : Joined). releasable j.kept.held) p)
    (own_nth os x i c.args.channel old c.self.view_is c.in_ok-place.ensures.0 (own_place os x i old c.self.view_is c.in_ok-place.ensures.1 c.index_mut.ensures.value))

pub returns-clause-joins : goal.returns-clause-joins
returns-clause-joins c =
    let os = c.self.inside.places.items in
    let x = c.args.self.now in
    let i = c.in_ok-place.place in
    let old = c.index_mut.result.now in
    own_same os x i c.args.channel old c.release.new.self released c.self.view_is c.in_ok-place.ensures.0 (own_place os x i old c.self.view_is c.in_ok-place.ensures.1 c.index_mut.ensures.value)
    c.release.ensures.joined c.release.ensures.held
