-- What the code's plan has for a DTE and for routes in the rules, and for an address.
use Rattle.std.specs.Prelude.{ℕ, ◌≤◌, List, length, Option, Some, None}
use Rattle.std.specs.List.{fold}
use Rattle.std.specs.FinMap.{empty}
use Rattle.address_routes.specs.Routes.{RouteMap}
use Rattle.net_config.specs.NetPlan.{NewDte, NewPad, NewHost}
use Rattle.net_config.specs.Plan.{added}
use Rattle.net_config.specs.declared.parts.NewKind.{NewKind}
use Rattle.net_config.specs.declared.parts.NewKind.TheVariants as kind_is
use Rattle.net_config.specs.declared.parts.NewRoute.{NewRoute}

abbrev pub kind_value : NewKind → NewDte
kind_value (kind_is.Pad params terminals) = NewPad params terminals
kind_value kind_is.Host = NewHost

-- the routes with one more, if it is accepted
abbrev pub add_route : RouteMap → NewRoute → RouteMap
add_route routes r = added routes r.prefix r.line.0

abbrev pub routes_value : List NewRoute → RouteMap
routes_value routes = fold add_route empty routes

-- an address, if there is one, has a digit
abbrev pub HasDigits : Option (List ℕ) → Type 0
HasDigits None = Unit {0}
HasDigits (Some digits) = 1 ≤ length digits
