use Rattle.std.proofs.Common.{take, sym, ap, arith, ◌∙◌}
use Rattle.std.specs.FinMap.{empty}
use Rattle.std.proofs.lemmas.List.{take_all}
use Rattle.std.proofs.lemmas.List.Sums.{fold_more}
use Rattle.address_routes.specs.Routes.{RouteMap}
use Rattle.net_config.specs.PlanView.{add_route, routes_value}
use Rattle.net_config.specs.declared.parts.NewRoute.{NewRoute}
use Rattle.net_node.proofs.making.new_routes.Goals as goal

pub loop-route-preserved : goal.loop-route-preserved
loop-route-preserved c =
    let routes = c.args.routes.now in
    let here = c.loop-route.route-index in
    let route = c.route-item.result in
    c.in_ok-add_route.ensures.ok
    ∙ ap (λ (m : RouteMap). add_route m route) c.loop-route.invariant
    ∙ ap (λ (r : NewRoute). add_route (routes_value (take here routes)) r) c.route-item.is
    ∙ sym (fold_more add_route empty routes here route (omega arith))

pub returns-clause-ok : goal.returns-clause-ok
returns-clause-ok c =
    c.loop-route.invariant ∙ ap routes_value (take_all c.loop-route.route-index c.args.routes.now (omega arith))
