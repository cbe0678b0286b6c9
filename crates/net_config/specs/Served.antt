-- Which networks are served. A PAD or a host is at one end of one line, a switch at one end of up to 64. A PAD is the DTE
-- of its line, a host the DTE or the DCE. At most 16 nodes are switches: each is the DTE of at most one line, a trunk,
-- which leads to a switch that comes earlier, and the DCE of its other ones. Networks may fall into parts.
use Rattle.std.specs.Prelude.{true, false, ℕ, ◌==◌, ◌&&◌, ◌||◌, not, Bool, List, length, string_bytes}
use Rattle.std.specs.Prelude.{nat_le, nat_lt, nat_eq, is_none, is_ok, slice_get, Option, Some, None, unwrap_or}
use Rattle.std.specs.Prelude.{if◌then◌else◌}
use Rattle.std.specs.List.{list_all, list_any, filter, position}
use Rattle.std.specs.Cmp.Lexicographic.{pointwise}
use Rattle.packet_codec.specs.Address.{address_of}
use Rattle.x3_params.specs.Values.{fault_of}
use Rattle.net_config.specs.declared.config.Config.{Config}
use Rattle.net_config.specs.declared.config.NodeConfig.{NodeConfig}
use Rattle.net_config.specs.declared.config.NodeKind.{NodeKind}
use Rattle.net_config.specs.declared.config.NodeKind.TheVariants as node_kind
use Rattle.net_config.specs.declared.config.TerminalsConfig.{TerminalsConfig}
use Rattle.net_config.specs.declared.config.LineConfig.{LineConfig}
use Rattle.net_config.specs.declared.config.RouteConfig.{RouteConfig}
use Rattle.net_config.specs.declared.config.Setting.{Setting}

abbrev pub is_from : ℕ → ℕ → ℕ → Bool
is_from a b n = nat_le a n && nat_le n b

-- two texts are the same
abbrev pub same_text : List ℕ → List ℕ → Bool
same_text = pointwise nat_eq

abbrev pub is_named : List ℕ → NodeConfig → Bool
is_named name n = same_text (string_bytes n.name) name

-- the line's DTE has the name
abbrev pub has_dte : List ℕ → LineConfig → Bool
has_dte name l = same_text (string_bytes l.dte) name

-- an end of the line has the name
abbrev pub has_end : List ℕ → LineConfig → Bool
has_end name l = has_dte name l || same_text (string_bytes l.dce) name

-- exactly one passes
abbrev pub exactly_one : {A : Type 0} → (A → Bool) → List A → Bool
exactly_one test xs = length (filter test xs) == 1

-- the place of the first that passes, or 0
abbrev pub place_of : {A : Type 0} → (A → Bool) → List A → ℕ
place_of test xs = unwrap_or (position test xs) 0

-- ---- nodes

-- a parameter may be set to the value
abbrev pub is_accepted : Setting → Bool
is_accepted s = is_none (fault_of s.number s.value)

-- a PAD has 1 to 16 terminals, and a speed of at most 255
abbrev pub is_pad_served : TerminalsConfig → Bool
is_pad_served p = is_from 1 16 p.terminals && nat_le p.speed 255 && list_all is_accepted p.settings.items

abbrev pub is_kind_served : NodeKind → Bool
is_kind_served (node_kind.Pad p) = is_pad_served p
is_kind_served node_kind.Host = true
is_kind_served node_kind.Switch = true

-- a PAD or a host has one line, a switch up to 64
abbrev pub most_lines : NodeKind → ℕ
most_lines node_kind.Switch = 64
most_lines _ = 1

-- the route is one of the switch of this name
abbrev pub is_route_of : List ℕ → RouteConfig → Bool
is_route_of name r = same_text (string_bytes r.switch) name

-- no other node has its name, it has as many lines as its kind may have, and at most 256 routes
abbrev pub is_node_served : Config → NodeConfig → Bool
is_node_served c n =
    exactly_one (is_named (string_bytes n.name)) c.nodes.items
    && is_from 1 (most_lines n.kind) (length (filter (has_end (string_bytes n.name)) c.lines.items))
    && is_kind_served n.kind
    && nat_le (length (filter (is_route_of (string_bytes n.name)) c.routes.items)) 256

-- ---- lines

-- packets are numbered modulo 8 with a window of 1 to 7, or modulo 128 with one of 1 to 32
abbrev pub is_numbered : LineConfig → Bool
is_numbered l = ((l.modulo == 8) && is_from 1 7 l.window) || ((l.modulo == 128) && is_from 1 32 l.window)

-- the packet sizes that a line may have
abbrev pub is_sized : LineConfig → Bool
is_sized l = (l.size == 128) || (l.size == 256) || (l.size == 512) || (l.size == 1024)

-- 1 to 32 channels, such numbers, such a size, k of 1 to 7 and n2 of 1 to 20
abbrev pub is_within : LineConfig → Bool
is_within l =
    is_from 1 32 l.channels && is_numbered l && is_sized l && is_from 1 7 l.k && is_from 1 20 l.n2

abbrev pub is_pad : NodeKind → Bool
is_pad (node_kind.Pad p) = true
is_pad _ = false

abbrev pub is_switch : NodeKind → Bool
is_switch node_kind.Switch = true
is_switch _ = false

-- the node of this name may be the DCE of a line: a host or a switch
abbrev pub is_dce_named : List ℕ → NodeConfig → Bool
is_dce_named name n = is_named name n && not (is_pad n.kind)

abbrev pub is_pad_named : List ℕ → NodeConfig → Bool
is_pad_named name n = is_named name n && is_pad n.kind

abbrev pub is_switch_named : List ℕ → NodeConfig → Bool
is_switch_named name n = is_named name n && is_switch n.kind

-- it is from a node to another one
abbrev pub joins_nodes : List NodeConfig → LineConfig → Bool
joins_nodes nodes l =
    not (same_text (string_bytes l.dte) (string_bytes l.dce))
    && list_any (is_named (string_bytes l.dte)) nodes
    && list_any (is_dce_named (string_bytes l.dce)) nodes

-- its DTE is a switch
abbrev pub is_from_switch : List NodeConfig → LineConfig → Bool
is_from_switch nodes l = list_any (is_switch_named (string_bytes l.dte)) nodes

-- its DCE is a switch
abbrev pub is_at_switch : List NodeConfig → LineConfig → Bool
is_at_switch nodes l = list_any (is_switch_named (string_bytes l.dce)) nodes

-- its DCE comes earlier than its DTE
abbrev pub leads_back : List NodeConfig → LineConfig → Bool
leads_back nodes l =
    nat_lt (place_of (is_named (string_bytes l.dce)) nodes) (place_of (is_named (string_bytes l.dte)) nodes)

-- a line from a switch is a trunk to a switch that comes earlier; and no other line has the same DTE
abbrev pub is_in_tree : Config → LineConfig → Bool
is_in_tree c l =
    (not (is_from_switch c.nodes.items l) || (is_at_switch c.nodes.items l && leads_back c.nodes.items l))
    && exactly_one (has_dte (string_bytes l.dte)) c.lines.items

-- the packets of a line from a PAD have 128 octets
abbrev pub suits_pad : List NodeConfig → LineConfig → Bool
suits_pad nodes l = not (list_any (is_pad_named (string_bytes l.dte)) nodes) || (l.size == 128)

-- 1 to 15 digits
abbrev pub is_address : List ℕ → Bool
is_address text = is_ok (address_of text)

-- the address of its DTE, which it has exactly where it is from a PAD or a host to a switch
abbrev pub has_own_address : List NodeConfig → LineConfig → Bool
has_own_address nodes l =
    if is_at_switch nodes l && not (is_from_switch nodes l)
    then is_address (string_bytes l.address)
    else length (string_bytes l.address) == 0

-- a call may stand on it: it is the one line, from a PAD to a host
abbrev pub may_stand : Config → LineConfig → Bool
may_stand c l =
    (length c.lines.items == 1)
    && list_any (is_pad_named (string_bytes l.dte)) c.nodes.items
    && not (is_at_switch c.nodes.items l)

abbrev pub is_line_served : Config → LineConfig → Bool
is_line_served c l =
    joins_nodes c.nodes.items l
    && is_in_tree c l
    && is_within l
    && suits_pad c.nodes.items l
    && has_own_address c.nodes.items l
    && (not l.standing || may_stand c l)

-- ---- routes

-- the line, if there is one, ends at the node of this name
abbrev pub ends_at : List ℕ → Option LineConfig → Bool
ends_at name (Some l) = has_end name l
ends_at name None = false

-- two routes are of the same switch and for the same prefix
abbrev pub same_route : RouteConfig → RouteConfig → Bool
same_route r other =
    is_route_of (string_bytes r.switch) other && same_text (string_bytes other.prefix) (string_bytes r.prefix)

-- it is a switch's, for a prefix of 1 to 15 digits that no other one of its routes has, to one of its lines
abbrev pub is_route_served : Config → RouteConfig → Bool
is_route_served c r =
    list_any (is_switch_named (string_bytes r.switch)) c.nodes.items
    && is_address (string_bytes r.prefix)
    && ends_at (string_bytes r.switch) (slice_get c.lines.items r.line)
    && exactly_one (same_route r) c.routes.items

-- ---- networks

-- nodes, lines and routes are right, and at most 16 nodes are switches
abbrev pub is_served : Config → Bool
is_served c =
    list_all (is_node_served c) c.nodes.items
    && list_all (is_line_served c) c.lines.items
    && list_all (is_route_served c) c.routes.items
    && nat_le (length (filter (λ n. is_switch n.kind) c.nodes.items)) 16
