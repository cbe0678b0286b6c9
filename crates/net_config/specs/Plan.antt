-- How a configuration becomes a plan.
use Rattle.std.specs.Prelude.{true, ◌≡◌, ◌==◌, ℕ, suc, Bool, List, [], ◌∷◌, map, length, slice_get, Some}
use Rattle.std.specs.Prelude.{is_none}
use Rattle.std.specs.Prelude.{if◌then◌else◌, string_bytes, Result, Ok, Err}
use Rattle.std.specs.List.{list_any, fold}
use Rattle.std.specs.FinMap.{empty, insert}
use Rattle.x3_params.specs.Table.{profile_values}
use Rattle.x3_params.specs.Values.{with_value}
use Rattle.link_timers.specs.declared.role.Role.{Role}
use Rattle.link_timers.specs.declared.role.Role.TheVariants.{Dte, Dce}
use Rattle.packet_codec.specs.Address.{address_of}
use Rattle.packet_codec.specs.declared.address.AddressFault.{AddressFault}
use Rattle.packet_codec.specs.declared.packet.Numbering.{Numbering}
use Rattle.packet_codec.specs.declared.packet.Numbering.TheVariants.{Modulo8, Modulo128}
use Rattle.data_transfer.specs.declared.flow.Flow.{Flow}
use Rattle.packet_end.specs.declared.params.EndParams.{EndParams}
use Rattle.address_routes.specs.Routes.{RouteMap, add_fault}
use Rattle.net_config.specs.NetPlan.{NewDte, NewPad, NewHost, NewNode, NewSwitch, Planned, PlannedUser, PlannedSwitch}
use Rattle.net_config.specs.NetPlan.{NewLine, NetPlan, IsPlan}
use Rattle.net_config.specs.Served.{is_accepted, is_named, has_dte, has_end, place_of, is_route_of, is_served}
use Rattle.net_config.specs.declared.config.Config.{Config}
use Rattle.net_config.specs.declared.config.NodeConfig.{NodeConfig}
use Rattle.net_config.specs.declared.config.NodeKind.{NodeKind}
use Rattle.net_config.specs.declared.config.NodeKind.TheVariants as node_kind
use Rattle.net_config.specs.declared.config.TerminalsConfig.{TerminalsConfig}
use Rattle.net_config.specs.declared.config.LineConfig.{LineConfig}
use Rattle.net_config.specs.declared.config.RouteConfig.{RouteConfig}
use Rattle.net_config.specs.declared.config.Setting.{Setting}

-- ---- nodes with users

-- the values with one more set, if it is accepted
abbrev pub set_one : List ℕ → Setting → List ℕ
set_one values s = if is_accepted s then with_value values s.number s.value else values

-- the initial parameters of a PAD: its profile's, and the settings in order
abbrev pub initial_params : TerminalsConfig → List ℕ
initial_params p = fold set_one (profile_values p.profile p.speed) p.settings.items

-- a node is a DTE where a line has it as its DTE
abbrev pub role_of : List LineConfig → List ℕ → Role
role_of lines name = if list_any (has_dte name) lines then Dte else Dce

-- a node with users of this name, made so where it is a DTE
abbrev pub new_user : List LineConfig → (name : List ℕ) → NewDte → NewNode
new_user lines name dte = record { line = place_of (has_end name) lines; role = role_of lines name; as_dte = dte }

-- ---- switches

-- the numbers of the lines that end at the node of this name, where they count from this one on
abbrev pub lines_from : (first : ℕ) → (name : List ℕ) → List LineConfig → List ℕ
lines_from first name [] = []
lines_from first name (l ∷ lines) =
    if has_end name l then first ∷ lines_from (suc first) name lines else lines_from (suc first) name lines

abbrev pub is_line : (line number : ℕ) → Bool
is_line line number = number == line

-- which own line a line is
abbrev pub own_number : (own : List ℕ) → (line : ℕ) → ℕ
own_number own line = place_of (is_line line) own

-- the routes with one more, if it is accepted
abbrev pub added : RouteMap → (prefix : List ℕ) → (own : ℕ) → RouteMap
added routes prefix own = if is_none (add_fault prefix routes) then insert routes prefix own else routes

abbrev pub with_prefix : RouteMap → Result (List ℕ) AddressFault → (own : ℕ) → RouteMap
with_prefix routes (Ok prefix) own = added routes prefix own
with_prefix routes (Err fault) own = routes

-- and the one that the configuration has, where it is of the switch of this name
abbrev pub with_route : (name : List ℕ) → (own : List ℕ) → RouteMap → RouteConfig → RouteMap
with_route name own routes r =
    if is_route_of name r
    then with_prefix routes (address_of (string_bytes r.prefix)) (own_number own r.line)
    else routes

abbrev pub new_routes : (name : List ℕ) → (own : List ℕ) → List RouteConfig → RouteMap
new_routes name own routes = fold (with_route name own) empty routes

-- a switch of this name, with all lines that end there
abbrev pub new_switch : Config → (name : List ℕ) → NewSwitch
new_switch c name = record {
  lines = lines_from 0 name c.lines.items;
  routes = new_routes name (lines_from 0 name c.lines.items) c.routes.items;
}

-- ---- nodes

abbrev pub planned_as : Config → (name : List ℕ) → NodeKind → Planned
planned_as c name (node_kind.Pad p) =
    PlannedUser (new_user c.lines.items name (NewPad (initial_params p) p.terminals))
planned_as c name node_kind.Host = PlannedUser (new_user c.lines.items name NewHost)
planned_as c name node_kind.Switch = PlannedSwitch (new_switch c name)

abbrev pub planned_node : Config → NodeConfig → Planned
planned_node c n = planned_as c (string_bytes n.name) n.kind

-- ---- lines

abbrev pub numbering_of : (modulo : ℕ) → Numbering
numbering_of modulo = if modulo == 128 then Modulo128 else Modulo8

abbrev pub flow_of : LineConfig → Flow
flow_of l = record { window = l.window; numbering = numbering_of l.modulo; size = l.size }

abbrev pub end_params : LineConfig → EndParams
end_params l = record { k = l.k; n2 = l.n2; channels = l.channels; flow = flow_of l; standing = l.standing }

-- the digits of an address, none where it is not one
abbrev pub digits_in : Result (List ℕ) AddressFault → List ℕ
digits_in (Ok digits) = digits
digits_in (Err fault) = []

abbrev pub new_line : List NodeConfig → LineConfig → NewLine
new_line nodes l = record {
  dte = place_of (is_named (string_bytes l.dte)) nodes;
  dce = place_of (is_named (string_bytes l.dce)) nodes;
  address = digits_in (address_of (string_bytes l.address));
  params = end_params l;
}

-- ---- networks

abbrev pub plan_of : Config → NetPlan
plan_of c = record {
  nodes = map (planned_node c) c.nodes.items;
  lines = map (new_line c.nodes.items) c.lines.items;
}

-- a call stands on a line only where it is the one line of the network
abbrev pub StandsAlone : NetPlan → Type 0
StandsAlone plan = (line : ℕ) (l : NewLine) → slice_get plan.lines line ≡ Some l → l.params.standing ≡ true
    → length plan.lines ≡ 1

-- a network that is served can be made so
abbrev pub PlanLaw : Type 0
PlanLaw = (c : Config) → is_served c ≡ true → IsPlan (plan_of c) × StandsAlone (plan_of c)
