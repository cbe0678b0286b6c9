use Rattle.std.proofs.Common.{◌≡◌, ap, subst, ◌∙◌, Option}
use Rattle.std.specs.Bool.{OnTrue}
use Rattle.switch_joins.specs.Joins.{Joined, gathered_by, gathers_nothing}
use Rattle.switch_joins.specs.Turning.{nothing_gathered}
use Rattle.switch_joins.proofs.Held.{own_place, own_nth}
use Rattle.switch_joins.proofs.joins.Joins.gathers_nothing_from.Goals as goal

pub returns-in-Some-clause-empty : goal.returns-in-Some-clause-empty
returns-in-Some-clause-empty c =
    let os = c.self.inside.places.items in
    let x = c.args.self.now in
    let i = c.in-Some.place in
    let o = c.index.result.now in
    c.gathers_nothing.ensures.empty
    ∙ ap gathers_nothing
    (own_nth os x i c.args.channel o c.self.view_is c.in-Some.ensures.0 (own_place os x i o c.self.view_is c.in-Some.ensures.1 c.index.ensures))

pub returns-in-Some-clause-nothing : goal.returns-in-Some-clause-nothing
returns-in-Some-clause-nothing c =
    let os = c.self.inside.places.items in
    let x = c.args.self.now in
    let i = c.in-Some.place in
    let o = c.index.result.now in
    subst (λ (j : Option Joined). OnTrue c.gathers_nothing.result (gathered_by j ≡ nothing_gathered))
    (own_nth os x i c.args.channel o c.self.view_is c.in-Some.ensures.0 (own_place os x i o c.self.view_is c.in-Some.ensures.1 c.index.ensures))
    c.gathers_nothing.ensures.nothing
