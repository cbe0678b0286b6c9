use Rattle.std.proofs.Common.{◌≡◌, take}
use Rattle.net_config.specs.Plan.{new_routes}
use Rattle.net_config.specs.PlanView.{routes_value}
use Rattle.net_config.proofs.plan.new_routes.Given as goal

abbrev pub invariant-loop-route : goal.invariant-loop-route
invariant-loop-route l = routes_value l.added.items ≡ new_routes l.fn.name l.fn.own (take l.route-index l.fn.routes)
