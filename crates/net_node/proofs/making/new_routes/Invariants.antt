-- The routes so far are added.
use Rattle.std.proofs.Common.{◌≡◌, take}
use Rattle.net_config.specs.PlanView.{routes_value}
use Rattle.net_node.proofs.making.new_routes.Given as goal

abbrev pub invariant-loop-route : goal.invariant-loop-route
invariant-loop-route l = l.made ≡ routes_value (take l.route-index l.routes)
