use Rattle.std.proofs.Common.{◌≡◌, true, false, length, subst}
use Rattle.std.specs.Prelude.{MatchOption}
use Rattle.data_transfer.specs.Held.{are_short}
use Rattle.switch_joins.specs.Joins.{gathered_by}
use Rattle.switch_joins.specs.Turning.{turned}
use Rattle.switch_joins.proofs.Held.{own_place, own_holds, own_nth}
use Rattle.switch_joins.proofs.joins.Joins.due.Goals as goal

pub due-requires : goal.due-requires
due-requires c =
    let os = c.self.inside.places.items in
    let x = c.args.self.now in
    let i = c.in-Some.place in
    let old = c.index.result.now in
    own_holds os x c.args.pool.now i old c.self.view_is c.requires (own_place os x i old c.self.view_is c.in-Some.ensures.1 c.index.ensures)

pub returns-in-Some : goal.returns-in-Some
returns-in-Some c = λ d e.
    let os = c.self.inside.places.items in
    let x = c.args.self.now in
    let i = c.in-Some.place in
    let old = c.index.result.now in
    subst (λ j. MatchOption c.due.result
    (are_short c.args.sizes.far (turned c.args.sizes (gathered_by j) d).made ≡ false)
    (λ count. (are_short c.args.sizes.far (turned c.args.sizes (gathered_by j) d).made ≡ true)
    × (count ≡ length (turned c.args.sizes (gathered_by j) d).made)))
    (own_nth os x i c.args.channel old c.self.view_is c.in-Some.ensures.0 (own_place os x i old c.self.view_is c.in-Some.ensures.1 c.index.ensures))
    (c.due.ensures d e)
