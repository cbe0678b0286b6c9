-- Which nodes of a network are in this process, and the first rule that lines break whose other ends are elsewhere.
use Rattle.std.specs.Prelude.{ℕ, zero, suc, Bool, true, false, not, ◌&&◌, ◌||◌, ◌==◌, List, [], ◌∷◌, length, replicate, set, slice_get, is_some, nat_le, nat_lt, Option, Some, None, option_map, unwrap_or, string_bytes, if◌then◌else◌}
use Rattle.std.specs.List.{list_all, list_any, filter, position}
use Rattle.std.specs.Option.{option_or}
use Rattle.std.specs.Net.Socket.{socket_ip}
use Rattle.std.specs.declared.net.socket_addr.SocketAddr.{SocketAddr}
use Rattle.net_config.specs.Served.{is_named}
use Rattle.net_config.specs.Rules.{first_at}
use Rattle.net_config.specs.declared.config.Config.{Config}
use Rattle.net_config.specs.declared.config.LineConfig.{LineConfig}
use Rattle.service_files.specs.Addresses.{is_here, same_place}
use Rattle.service_files.specs.Bindings.{is_apart}
use Rattle.service_files.specs.declared.file.End.{End}
use Rattle.service_files.specs.declared.file.End.TheVariants.{Dte, Dce}
use Rattle.net_config.specs.declared.config.NodeConfig.{NodeConfig}
use Rattle.net_config.specs.declared.config.NodeKind.{NodeKind}
use Rattle.net_config.specs.declared.config.NodeKind.TheVariants as node_kind
use Rattle.service_files.specs.declared.file.Way.{Way}
use Rattle.service_files.specs.declared.file.Way.TheVariants.{Listen, Connect, Xot, Udp}
use Rattle.service_files.specs.Ways.{xot_listen}
use Rattle.service_files.specs.declared.file.LineTable.{LineTable}
use Rattle.service_files.specs.declared.file.ServiceFile.{ServiceFile}
use Rattle.service_files.specs.declared.line_rules.BrokenLine.{BrokenLine}
use Rattle.service_files.specs.declared.line_rules.BrokenLine.TheVariants as broken
use Rattle.service_files.specs.declared.line_rules.LineRule.{LineRule}
use Rattle.service_files.specs.declared.line_rules.LineRule.TheVariants as line_rule

-- ---- which nodes are here

abbrev pub other_end : End → End
other_end Dte = Dce
other_end Dce = Dte

-- the place of the node at an end of a line
abbrev pub node_at : Config → LineConfig → End → Option ℕ
node_at c l Dte = position (is_named (string_bytes l.dte)) c.nodes.items
node_at c l Dce = position (is_named (string_bytes l.dce)) c.nodes.items

abbrev pub node_in : Config → Option LineConfig → End → Option ℕ
node_in c None end = None
node_in c (Some l) end = node_at c l end

abbrev pub node_of_table : Config → LineTable → End → Option ℕ
node_of_table c t end = node_in c (slice_get c.lines.items t.line) end

-- a table has the line of this number
abbrev pub is_remote : ServiceFile → (line : ℕ) → Bool
is_remote f line = list_any (λ t. t.line == line) f.lines.items

abbrev pub is_marked : List Bool → Option ℕ → Bool
is_marked marks None = false
is_marked marks (Some node) = unwrap_or (slice_get marks node) false

abbrev pub marked : Option ℕ → List Bool → List Bool
marked None marks = marks
marked (Some node) marks = set marks node true

-- a line of which no end is elsewhere has both its nodes marked if one of them is
abbrev pub ends_joined : Config → LineConfig → List Bool → List Bool
ends_joined c l marks =
    if is_marked marks (node_at c l Dte) then marked (node_at c l Dce) marks
    else if is_marked marks (node_at c l Dce) then marked (node_at c l Dte) marks
    else marks

abbrev pub line_joined : Config → (remote : Bool) → Option LineConfig → List Bool → List Bool
line_joined c remote None marks = marks
line_joined c true (Some l) marks = marks
line_joined c false (Some l) marks = ends_joined c l marks

abbrev pub line_marked : Config → ServiceFile → (number : ℕ) → List Bool → List Bool
line_marked c f number marks = line_joined c (is_remote f number) (slice_get c.lines.items number) marks

-- so it is for the lines before a number, one after the other
abbrev pub lines_marked : Config → ServiceFile → (below : ℕ) → List Bool → List Bool
lines_marked c f zero marks = marks
lines_marked c f (suc below) marks = line_marked c f below (lines_marked c f below marks)

-- and again for all lines, so many times
abbrev pub rounds_marked : Config → ServiceFile → (rounds : ℕ) → List Bool → List Bool
rounds_marked c f zero marks = marks
rounds_marked c f (suc rounds) marks = lines_marked c f (length c.lines.items) (rounds_marked c f rounds marks)

-- the end here of the line of a table is marked
abbrev pub end_in : Config → Option LineTable → List Bool → List Bool
end_in c None marks = marks
end_in c (Some t) marks = marked (node_of_table c t t.here) marks

abbrev pub end_marked : Config → ServiceFile → (place : ℕ) → List Bool → List Bool
end_marked c f place marks = end_in c (slice_get f.lines.items place) marks

abbrev pub ends_marked : Config → ServiceFile → (below : ℕ) → List Bool → List Bool
ends_marked c f zero marks = marks
ends_marked c f (suc below) marks = end_marked c f below (ends_marked c f below marks)

-- the nodes at the ends here, and those that are reached from them without a line whose other end is elsewhere; all, if
-- there is no such line
abbrev pub own_nodes : Config → ServiceFile → List Bool
own_nodes c f =
    rounds_marked c f (length c.nodes.items)
    (ends_marked c f (length f.lines.items) (replicate (length c.nodes.items) (length f.lines.items == 0)))

-- ---- rules

abbrev pub has_line : LineTable → LineTable → Bool
has_line t other = other.line == t.line

abbrev pub stands_in : Option LineConfig → Bool
stands_in None = false
stands_in (Some l) = l.standing

abbrev pub is_standing : Config → LineTable → Bool
is_standing c t = stands_in (slice_get c.lines.items t.line)

-- no table of another kind listens there, nor the control port, nor the page
abbrev pub listens_apart : ServiceFile → SocketAddr → Bool
listens_apart f listen =
    is_apart listen f.control && is_apart listen f.web
    && list_all (λ t. not (same_place listen t.listen)) f.terminals.items && list_all (λ t. not (same_place listen t.listen)) f.callers.items

-- where connections come, if they do
abbrev pub listen_of : Way → Option SocketAddr
listen_of (Listen at) = Some at
listen_of (Connect at) = None
listen_of (Xot way) = xot_listen way
listen_of (Udp way) = None

abbrev pub is_place : SocketAddr → Option SocketAddr → Bool
is_place place None = false
is_place place (Some other) = same_place place other

abbrev pub listens_at : (listen : SocketAddr) → LineTable → Bool
listens_at listen t = is_place listen (listen_of t.way)

-- where connections of calls come, nothing else does
abbrev pub xot_is_apart : ServiceFile → Option SocketAddr → Bool
xot_is_apart f None = true
xot_is_apart f (Some at) = listens_apart f at && nat_le (length (filter (listens_at at) f.lines.items)) 1

abbrev pub way_is_apart : ServiceFile → Way → Bool
way_is_apart f (Listen at) = listens_apart f at
way_is_apart f (Connect at) = true
way_is_apart f (Xot way) = xot_is_apart f (xot_listen way)
way_is_apart f (Udp way) = true

abbrev pub is_here_or_none : Option SocketAddr → Bool
is_here_or_none None = true
is_here_or_none (Some at) = is_here (socket_ip at)

abbrev pub is_way_here : Way → Bool
is_way_here way = is_here_or_none (listen_of way)

-- where datagrams come, if they do
abbrev pub bind_of : Way → Option SocketAddr
bind_of (Listen at) = None
bind_of (Connect at) = None
bind_of (Xot way) = None
bind_of (Udp way) = Some way.bind

abbrev pub binds_at : (bind : SocketAddr) → LineTable → Bool
binds_at bind t = is_place bind (bind_of t.way)

abbrev pub binds_once : ServiceFile → Option SocketAddr → Bool
binds_once f None = true
binds_once f (Some at) = nat_le (length (filter (binds_at at) f.lines.items)) 1

-- equipment whose calls come over connections is the DTE of its line
abbrev pub is_dce_here : Way → End → Bool
is_dce_here (Xot way) Dte = false
is_dce_here _ _ = true

abbrev pub node_of_place : Config → Option ℕ → Option NodeConfig
node_of_place c None = None
node_of_place c (Some node) = slice_get c.nodes.items node

-- the node at an end of the line of a table
abbrev pub node_there : Config → LineTable → End → Option NodeConfig
node_there c t end = node_of_place c (node_of_table c t end)

abbrev pub is_switch_kind : NodeKind → Bool
is_switch_kind node_kind.Switch = true
is_switch_kind _ = false

abbrev pub is_switch : Option NodeConfig → Bool
is_switch None = false
is_switch (Some node) = is_switch_kind node.kind

abbrev pub is_host_kind : NodeKind → Bool
is_host_kind node_kind.Host = true
is_host_kind _ = false

abbrev pub is_host : Option NodeConfig → Bool
is_host None = false
is_host (Some node) = is_host_kind node.kind

-- equipment is at a line of a switch
abbrev pub may_be_here : Way → Option NodeConfig → Bool
may_be_here (Listen at) n = true
may_be_here (Connect at) n = true
may_be_here (Xot way) n = is_switch n
may_be_here (Udp way) n = is_switch n

-- it stands in the network as a host, and for datagrams as a host or a switch
abbrev pub may_be_there : Way → Option NodeConfig → Bool
may_be_there (Listen at) n = true
may_be_there (Connect at) n = true
may_be_there (Xot way) n = is_host n
may_be_there (Udp way) n = is_host n || is_switch n

abbrev pub line_keeps : Config → ServiceFile → (own : List Bool) → LineTable → LineRule → Bool
line_keeps c f own t line_rule.LineIsThere = nat_lt t.line (length c.lines.items)
line_keeps c f own t line_rule.LineOnce = length (filter (has_line t) f.lines.items) == 1
line_keeps c f own t line_rule.NotStanding = not (is_standing c t)
line_keeps c f own t line_rule.OtherEndElsewhere = not (is_marked own (node_of_table c t (other_end t.here)))
line_keeps c f own t line_rule.DceHere = is_dce_here t.way t.here
line_keeps c f own t line_rule.SwitchHere = may_be_here t.way (node_there c t t.here)
line_keeps c f own t line_rule.EquipmentThere = may_be_there t.way (node_there c t (other_end t.here))
line_keeps c f own t line_rule.ListenApart = way_is_apart f t.way
line_keeps c f own t line_rule.BindOnce = binds_once f (bind_of t.way)
line_keeps c f own t line_rule.AllowBeyond = is_way_here t.way || is_some t.allow.prefixes
line_keeps c f own t line_rule.SilenceLong = nat_le 3 t.silence

abbrev pub line_rules : List LineRule
line_rules = line_rule.LineIsThere ∷ line_rule.LineOnce ∷ line_rule.NotStanding ∷ line_rule.OtherEndElsewhere
    ∷ line_rule.DceHere ∷ line_rule.SwitchHere ∷ line_rule.EquipmentThere
    ∷ line_rule.ListenApart ∷ line_rule.BindOnce ∷ line_rule.AllowBeyond ∷ line_rule.SilenceLong ∷ []

abbrev pub line_fits : Config → ServiceFile → (own : List Bool) → LineTable → Bool
line_fits c f own t = list_all (line_keeps c f own t) line_rules

abbrev pub broken_line : Config → ServiceFile → (own : List Bool) → Option BrokenLine
broken_line c f own = first_at (line_fits c f own) (line_keeps c f own) line_rules broken.Line f.lines.items

-- ---- bindings at nodes that are elsewhere

abbrev pub is_own : Config → (own : List Bool) → (name : List ℕ) → Bool
is_own c own name = is_marked own (position (is_named name) c.nodes.items)

abbrev pub pad_elsewhere : Config → ServiceFile → (own : List Bool) → Option BrokenLine
pad_elsewhere c f own = option_map broken.PadElsewhere (position (λ t. not (is_own c own t.pad.now)) f.terminals.items)

abbrev pub service_elsewhere : Config → ServiceFile → (own : List Bool) → Option BrokenLine
service_elsewhere c f own =
    option_map broken.ServiceElsewhere (position (λ t. not (is_own c own t.host.now)) f.services.items)

abbrev pub caller_elsewhere : Config → ServiceFile → (own : List Bool) → Option BrokenLine
caller_elsewhere c f own =
    option_map broken.CallerElsewhere (position (λ t. not (is_own c own t.host.now)) f.callers.items)

abbrev pub first_broken_line : Config → ServiceFile → (own : List Bool) → Option BrokenLine
first_broken_line c f own =
    option_or (option_or (option_or (broken_line c f own) (pad_elsewhere c f own)) (service_elsewhere c f own))
    (caller_elsewhere c f own)
