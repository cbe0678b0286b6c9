-- The rules of networks one by one, in the order in which they are looked at, and the first that does not hold.
use Rattle.std.specs.Prelude.{true, ◌≡◌, false, ℕ, ◌==◌, ◌&&◌, ◌||◌, not, Bool, List, [], ◌∷◌, length, string_bytes}
use Rattle.std.specs.Prelude.{nat_le, find, slice_get, Option, Some, None, option_and_then, option_map}
use Rattle.std.specs.Prelude.{if◌then◌else◌}
use Rattle.std.specs.List.{list_all, list_any, filter, position}
use Rattle.std.specs.Option.{option_or}
use Rattle.net_config.specs.Served.{is_from, is_named, has_dte, has_end, exactly_one, is_accepted, most_lines}
use Rattle.net_config.specs.Served.{is_route_of, is_node_served, same_text, is_dce_named, is_from_switch, is_at_switch}
use Rattle.net_config.specs.Served.{leads_back, is_numbered, is_sized, suits_pad, is_address, may_stand}
use Rattle.net_config.specs.Served.{is_line_served, is_switch_named, ends_at, same_route, is_route_served, is_switch}
use Rattle.net_config.specs.declared.config.Config.{Config}
use Rattle.net_config.specs.declared.config.NodeConfig.{NodeConfig}
use Rattle.net_config.specs.declared.config.NodeKind.{NodeKind}
use Rattle.net_config.specs.declared.config.NodeKind.TheVariants as node_kind
use Rattle.net_config.specs.declared.config.TerminalsConfig.{TerminalsConfig}
use Rattle.net_config.specs.declared.config.LineConfig.{LineConfig}
use Rattle.net_config.specs.declared.config.RouteConfig.{RouteConfig}
use Rattle.net_config.specs.declared.rules.BrokenRule.{BrokenRule}
use Rattle.net_config.specs.declared.rules.BrokenRule.TheVariants as broken
use Rattle.net_config.specs.declared.rules.NodeRule.{NodeRule}
use Rattle.net_config.specs.declared.rules.NodeRule.TheVariants as node_rule
use Rattle.net_config.specs.declared.rules.LineRule.{LineRule}
use Rattle.net_config.specs.declared.rules.LineRule.TheVariants as line_rule
use Rattle.net_config.specs.declared.rules.RouteRule.{RouteRule}
use Rattle.net_config.specs.declared.rules.RouteRule.TheVariants as route_rule

-- ---- nodes

-- a PAD passes
abbrev pub if_pad : (TerminalsConfig → Bool) → NodeKind → Bool
if_pad test (node_kind.Pad p) = test p
if_pad test _ = true

abbrev pub node_keeps : Config → NodeConfig → NodeRule → Bool
node_keeps c n node_rule.NameOnce = exactly_one (is_named (string_bytes n.name)) c.nodes.items
node_keeps c n node_rule.AtALine = nat_le 1 (length (filter (has_end (string_bytes n.name)) c.lines.items))
node_keeps c n node_rule.AtFewLines =
    nat_le (length (filter (has_end (string_bytes n.name)) c.lines.items)) (most_lines n.kind)
node_keeps c n node_rule.Terminals = if_pad (λ p. is_from 1 16 p.terminals) n.kind
node_keeps c n node_rule.Speed = if_pad (λ p. nat_le p.speed 255) n.kind
node_keeps c n node_rule.Settings = if_pad (λ p. list_all is_accepted p.settings.items) n.kind
node_keeps c n node_rule.FewRoutes =
    nat_le (length (filter (is_route_of (string_bytes n.name)) c.routes.items)) 256

abbrev pub node_rules : List NodeRule
node_rules = node_rule.NameOnce ∷ node_rule.AtALine ∷ node_rule.AtFewLines ∷ node_rule.Terminals ∷ node_rule.Speed
    ∷ node_rule.Settings ∷ node_rule.FewRoutes ∷ []

-- ---- lines

-- it is from a PAD or a host to a switch
abbrev pub is_access : List NodeConfig → LineConfig → Bool
is_access nodes l = is_at_switch nodes l && not (is_from_switch nodes l)

abbrev pub line_keeps : Config → LineConfig → LineRule → Bool
line_keeps c l line_rule.DteIsNode = list_any (is_named (string_bytes l.dte)) c.nodes.items
line_keeps c l line_rule.DceIsNode = list_any (is_named (string_bytes l.dce)) c.nodes.items
line_keeps c l line_rule.TwoNodes = not (same_text (string_bytes l.dte) (string_bytes l.dce))
line_keeps c l line_rule.DceNoPad = list_any (is_dce_named (string_bytes l.dce)) c.nodes.items
line_keeps c l line_rule.TrunkToSwitch = not (is_from_switch c.nodes.items l) || is_at_switch c.nodes.items l
line_keeps c l line_rule.TrunkBack = not (is_from_switch c.nodes.items l) || leads_back c.nodes.items l
line_keeps c l line_rule.DteOnce = exactly_one (has_dte (string_bytes l.dte)) c.lines.items
line_keeps c l line_rule.Channels = is_from 1 32 l.channels
line_keeps c l line_rule.Numbered = is_numbered l
line_keeps c l line_rule.Sized = is_sized l
line_keeps c l line_rule.K = is_from 1 7 l.k
line_keeps c l line_rule.N2 = is_from 1 20 l.n2
line_keeps c l line_rule.SizeAtPad = suits_pad c.nodes.items l
line_keeps c l line_rule.Address = not (is_access c.nodes.items l) || is_address (string_bytes l.address)
line_keeps c l line_rule.NoAddress = is_access c.nodes.items l || (length (string_bytes l.address) == 0)
line_keeps c l line_rule.StandsAlone = not l.standing || may_stand c l

abbrev pub line_rules : List LineRule
line_rules = line_rule.DteIsNode ∷ line_rule.DceIsNode ∷ line_rule.TwoNodes ∷ line_rule.DceNoPad
    ∷ line_rule.TrunkToSwitch ∷ line_rule.TrunkBack ∷ line_rule.DteOnce ∷ line_rule.Channels ∷ line_rule.Numbered
    ∷ line_rule.Sized ∷ line_rule.K ∷ line_rule.N2 ∷ line_rule.SizeAtPad ∷ line_rule.Address ∷ line_rule.NoAddress
    ∷ line_rule.StandsAlone ∷ []

-- ---- routes

abbrev pub route_keeps : Config → RouteConfig → RouteRule → Bool
route_keeps c r route_rule.OfASwitch = list_any (is_switch_named (string_bytes r.switch)) c.nodes.items
route_keeps c r route_rule.Prefix = is_address (string_bytes r.prefix)
route_keeps c r route_rule.ToOwnLine = ends_at (string_bytes r.switch) (slice_get c.lines.items r.line)
route_keeps c r route_rule.PrefixOnce = exactly_one (same_route r) c.routes.items

abbrev pub route_rules : List RouteRule
route_rules = route_rule.OfASwitch ∷ route_rule.Prefix ∷ route_rule.ToOwnLine ∷ route_rule.PrefixOnce ∷ []

-- ---- networks

abbrev pub has_few_switches : Config → Bool
has_few_switches c = nat_le (length (filter (λ n. is_switch n.kind) c.nodes.items)) 16

-- the first rule of a list that is broken
abbrev pub first_of : {A R : Type 0} → (keeps : A → R → Bool) → List R → A → Option R
first_of keeps rules x = find (λ rule. not (keeps x rule)) rules

-- the first that does not pass, and the first rule that it breaks
abbrev pub first_at : {A R B : Type 0} → (passes : A → Bool) → (keeps : A → R → Bool) → List R → (made : ℕ → R → B)
    → List A → Option B
first_at passes keeps rules made xs =
    option_and_then (λ place. option_and_then (λ x. option_map (made place) (first_of keeps rules x)) (slice_get xs place))
    (position (λ x. not (passes x)) xs)

abbrev pub broken_name : Config → Option BrokenRule
broken_name c = first_at (λ n. node_keeps c n node_rule.NameOnce) (node_keeps c) node_rules broken.Node c.nodes.items

abbrev pub broken_line : Config → Option BrokenRule
broken_line c = first_at (is_line_served c) (line_keeps c) line_rules broken.Line c.lines.items

abbrev pub broken_node : Config → Option BrokenRule
broken_node c = first_at (is_node_served c) (node_keeps c) node_rules broken.Node c.nodes.items

abbrev pub broken_route : Config → Option BrokenRule
broken_route c = first_at (is_route_served c) (route_keeps c) route_rules broken.Route c.routes.items

abbrev pub broken_count : Config → Option BrokenRule
broken_count c = if has_few_switches c then None else Some broken.FewSwitches

-- names of nodes first, and then lines, nodes, routes and the number of switches
abbrev pub first_broken : Config → Option BrokenRule
first_broken c =
    option_or (broken_name c)
    (option_or (broken_line c) (option_or (broken_node c) (option_or (broken_route c) (broken_count c))))

-- the rule does not hold of the node, the line or the route at its place
abbrev pub Breaks : Config → BrokenRule → Type 0
Breaks c (broken.Node place rule) =
    (n : NodeConfig) × (slice_get c.nodes.items place ≡ Some n) × (node_keeps c n rule ≡ false)
Breaks c (broken.Line place rule) =
    (l : LineConfig) × (slice_get c.lines.items place ≡ Some l) × (line_keeps c l rule ≡ false)
Breaks c (broken.Route place rule) =
    (r : RouteConfig) × (slice_get c.routes.items place ≡ Some r) × (route_keeps c r rule ≡ false)
Breaks c broken.FewSwitches = has_few_switches c ≡ false
