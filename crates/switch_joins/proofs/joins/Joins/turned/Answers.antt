use Rattle.std.proofs.Common.{ap, ◌∙◌}
use Rattle.switch_joins.specs.Joins.{gathered_by}
use Rattle.switch_joins.specs.Turning.{turned}
use Rattle.switch_joins.proofs.Held.{own_place, own_holds, own_nth}
use Rattle.switch_joins.proofs.joins.Joins.turned.Goals as goal

pub turned-requires : goal.turned-requires
turned-requires c =
    let os = c.self.inside.places.items in
    let x = c.args.self.now in
    let i = c.in-Some.place in
    let old = c.index.result.now in
    own_holds os x c.args.pool.now i old c.self.view_is c.requires (own_place os x i old c.self.view_is c.in-Some.ensures.1 c.index.ensures)

pub returns-in-Some : goal.returns-in-Some
returns-in-Some c =
    let os = c.self.inside.places.items in
    let x = c.args.self.now in
    let i = c.in-Some.place in
    let old = c.index.result.now in
    c.turned.ensures
    ∙ ap (λ j. turned c.args.sizes (gathered_by j) c.args.packet.now)
    (own_nth os x i c.args.channel old c.self.view_is c.in-Some.ensures.0 (own_place os x i old c.self.view_is c.in-Some.ensures.1 c.index.ensures))
