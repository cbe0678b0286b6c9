use Rattle.std.proofs.Common.{length, ap, ◌∙◌}
use Rattle.switch_joins.specs.Direction.{passed}
use Rattle.switch_joins.specs.Joins.{gathered_by}
use Rattle.switch_joins.proofs.Held.{own_place, own_nth, own_same}
use Rattle.switch_joins.proofs.joins.Joins.pass.Goals as goal

pub pass-requires : goal.pass-requires
pass-requires c =
    let os = c.self.inside.places.items in
    let x = c.args.self.now in
    let i = c.in-Some.place in
    let old = c.index_mut.result.now in
    ap (λ j. length (gathered_by j).octets) (own_nth os x i c.args.channel old c.self.view_is c.in-Some.ensures.0 (own_place os x i old c.self.view_is c.in-Some.ensures.1 c.index_mut.ensures.value)) ∙ c.requires

pub returns-in-Some : goal.returns-in-Some
returns-in-Some c = λ d.
    let os = c.self.inside.places.items in
    let x = c.args.self.now in
    let i = c.in-Some.place in
    let old = c.index_mut.result.now in
    own_same os x i c.args.channel old c.pass.new.self (passed c.args.delivery) c.self.view_is c.in-Some.ensures.0 (own_place os x i old c.self.view_is c.in-Some.ensures.1 c.index_mut.ensures.value)
    c.pass.ensures.joined c.pass.ensures.held
