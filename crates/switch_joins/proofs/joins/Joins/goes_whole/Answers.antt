use Rattle.std.proofs.Common.{Bool, ◌&&◌, sym, ap, ◌∙◌}
use Rattle.std.proofs.lemmas.Bool.{eq-eqb}
use Rattle.switch_joins.specs.Joins.{nth_joined, gathers_nothing}
use Rattle.switch_joins.proofs.joins.Joins.goes_whole.Goals as goal

pub returns-then-near-far-clause-whole : goal.returns-then-near-far-clause-whole
returns-then-near-far-clause-whole c =
    let s = c.args.sizes in
    c.gathers_nothing_from.ensures.empty
    ∙ ap (λ (b : Bool). b && gathers_nothing (nth_joined c.args.self.now.joined c.args.channel))
    (sym (eq-eqb s.near s.far (sym c.near.ensures.value ∙ c.if-near-far.true ∙ c.far.ensures.value)))
