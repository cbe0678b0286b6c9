use Rattle.std.proofs.Common.{◌∙◌, ap, sym, arith, List, Option}
use Rattle.std.proofs.lemmas.Grind.{common_steps}
use Rattle.switch_joins.specs.Joins.{gathered_by, nth_joined}
use Rattle.switch_lines.specs.Lines.{Joined, SwitchLine, joined_on}
use Rattle.switch_lines.proofs.Pooled.{one_seen, seen_within}
use Rattle.switch_lines.proofs.lines.Lines.move_front.Goals as goal

pub index-requires : goal.index-requires
index-requires c = grind (arith, common_steps)

pub move_whole-requires-clause-nothing : goal.move_whole-requires-clause-nothing
move_whole-requires-clause-nothing c =
    let xs = c.self.inside.lines.items in
    let ls = c.args.self.now in
    let leg = c.args.leg in
    let seen = one_seen xs ls leg.line c.index.result.now c.self.view_is (seen_within xs ls leg.line c.self.view_is c.requires.there) c.index.ensures in
    sym (ap (λ (o : Option SwitchLine). gathered_by (joined_on o leg.channel)) seen)
    ∙ (sym (ap (λ (js : List (Option Joined)). gathered_by (nth_joined js leg.channel)) c.joins.ensures.joined)
    ∙ c.if-goes_whole.ensures.nothing)
