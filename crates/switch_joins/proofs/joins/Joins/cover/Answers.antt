use Rattle.switch_joins.specs.Direction.{covered_by}
use Rattle.switch_joins.proofs.Held.{own_place, own_same}
use Rattle.switch_joins.proofs.joins.Joins.cover.Goals as goal

pub returns-in-Some : goal.returns-in-Some
returns-in-Some c =
    let os = c.self.inside.places.items in
    let x = c.args.self.now in
    let i = c.in-Some.place in
    let old = c.index_mut.result.now in
    own_same os x i c.args.channel old c.cover.new.self (covered_by c.args.count) c.self.view_is c.in-Some.ensures.0 (own_place os x i old c.self.view_is c.in-Some.ensures.1 c.index_mut.ensures.value)
    c.cover.ensures.joined c.cover.ensures.held
