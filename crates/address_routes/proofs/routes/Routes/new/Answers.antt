use Rattle.std.proofs.Common.{List, ap, sym, ◌∙◌, subst}
use Rattle.address_routes.specs.declared.tree.Node.{Node}
use Rattle.address_routes.specs.RoutesView.{AreRoutes, map_of}
use Rattle.address_routes.proofs.Growing.{root_alone, no_lines}
use Rattle.address_routes.proofs.routes.Routes.new.Goals as goal

pub invariant_of-result : goal.invariant_of-result
invariant_of-result c =
    let P : List Node → Type 0 = λ nodes. AreRoutes nodes 0 in
    subst P (sym c.in_ok-new.ensures) root_alone

pub returns : goal.returns
returns c = ap map_of c.in_ok-new.ensures ∙ no_lines
