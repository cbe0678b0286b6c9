use Rattle.std.proofs.Common.{sym, ap, ◌∙◌}
use Rattle.std.specs.List.{list_all}
use Rattle.std.proofs.lemmas.List.Folds.{list_all-map}
use Rattle.switch_joins.specs.Joins.{gathers_nothing}
use Rattle.switch_joins.specs.Held.{HeldJoins, joined_in}
use Rattle.switch_joins.proofs.joins.Joins.gathers_nothing.Goals as goal

pub returns : goal.returns
returns c =
    c.all_gather_nothing.ensures
    ∙ ap (list_all (λ o. gathers_nothing (joined_in o))) c.as_slice.ensures.value
    ∙ sym (list_all-map gathers_nothing joined_in c.self.inside.places.items)
    ∙ ap (λ (x : HeldJoins). list_all gathers_nothing x.joined) c.self.view_is
