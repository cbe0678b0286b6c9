-- Which service files fit a network, rule by rule, and the first rule that does not hold.
use Rattle.std.specs.Prelude.{true, false, ℕ, length, ◌==◌, ◌&&◌, ◌||◌, not, ◌-◌, Bool, List, [], ◌∷◌, find, nat_le, nat_lt}
use Rattle.std.specs.Prelude.{◌≡◌, slice_get, is_none, is_some, Option, Some, None, unwrap_or, if◌then◌else◌}
use Rattle.std.specs.List.{list_all, list_any, filter}
use Rattle.std.specs.Option.{option_or}
use Rattle.std.specs.Net.Socket.{socket_ip}
use Rattle.std.specs.declared.net.socket_addr.SocketAddr.{SocketAddr}
use Rattle.net_config.specs.Served.{same_text, exactly_one, has_end, is_named, is_pad_named}
use Rattle.net_config.specs.Rules.{first_at}
use Rattle.net_config.specs.declared.config.Config.{Config}
use Rattle.net_config.specs.declared.config.LineConfig.{LineConfig}
use Rattle.net_config.specs.declared.config.NodeConfig.{NodeConfig}
use Rattle.net_config.specs.declared.config.NodeKind.{NodeKind}
use Rattle.net_config.specs.declared.config.NodeKind.TheVariants as node_kind
use Rattle.service_files.specs.Addresses.{is_here, same_place}
use Rattle.service_ports.specs.Modes.{is_telnet}
use Rattle.service_files.specs.declared.file.TerminalsTable.{TerminalsTable}
use Rattle.service_files.specs.declared.file.ServiceTable.{ServiceTable}
use Rattle.service_files.specs.declared.file.CallerTable.{CallerTable}
use Rattle.service_files.specs.declared.file.ServiceFile.{ServiceFile}
use Rattle.service_files.specs.declared.rules.BrokenBinding.{BrokenBinding}
use Rattle.service_files.specs.declared.rules.BrokenBinding.TheVariants as broken
use Rattle.service_files.specs.declared.rules.TerminalsRule.{TerminalsRule}
use Rattle.service_files.specs.declared.rules.TerminalsRule.TheVariants as terminals_rule
use Rattle.service_files.specs.declared.rules.ServiceRule.{ServiceRule}
use Rattle.service_files.specs.declared.rules.ServiceRule.TheVariants as service_rule
use Rattle.service_files.specs.declared.rules.CallerRule.{CallerRule}
use Rattle.service_files.specs.declared.rules.CallerRule.TheVariants as caller_rule

-- ---- terminals

-- how many terminals a node has, none if it is no PAD
abbrev pub terminals_of : NodeKind → ℕ
terminals_of (node_kind.Pad pad) = pad.terminals
terminals_of _ = 0

abbrev pub terminals_at : Option NodeConfig → ℕ
terminals_at None = 0
terminals_at (Some node) = terminals_of node.kind

-- how many terminals the node of this name has
abbrev pub terminals_in : List NodeConfig → (name : List ℕ) → ℕ
terminals_in nodes name = terminals_at (find (is_named name) nodes)

-- how many channels a line has
abbrev pub channels_at : Option LineConfig → ℕ
channels_at None = 0
channels_at (Some line) = line.channels

-- how many channels the first line has at which the node of this name is
abbrev pub channels_of : Config → (name : List ℕ) → ℕ
channels_of c name = channels_at (find (has_end name) c.lines.items)

-- the last terminal of a table
abbrev pub last_of : Config → TerminalsTable → ℕ
last_of c t = unwrap_or t.last (terminals_in c.nodes.items t.pad.now - 1)

abbrev pub has_last : Config → TerminalsTable → Bool
has_last c t = nat_le t.first (last_of c t) && nat_lt (last_of c t) (terminals_in c.nodes.items t.pad.now)

-- a terminal of the one is a terminal of the other
abbrev pub overlaps : Config → TerminalsTable → TerminalsTable → Bool
overlaps c t other =
    same_text t.pad.now other.pad.now && nat_le other.first (last_of c t) && nat_le t.first (last_of c other)

-- if there is one, it is not the other
abbrev pub is_apart : SocketAddr → Option SocketAddr → Bool
is_apart listen None = true
is_apart listen (Some other) = not (same_place listen other)

-- how many tables of terminals listen there, and how many callers
abbrev pub count_terminals : ServiceFile → SocketAddr → ℕ
count_terminals f listen = length (filter (λ other. same_place listen other.listen) f.terminals.items)

abbrev pub count_callers : ServiceFile → SocketAddr → ℕ
count_callers f listen = length (filter (λ other. same_place listen other.listen) f.callers.items)

-- no two tables listen there, and the control port and the page are elsewhere
abbrev pub listens_once : ServiceFile → SocketAddr → Bool
listens_once f listen =
    is_apart listen f.control && is_apart listen f.web && nat_le (count_terminals f listen) 1 && nat_le (count_callers f listen) 1
    && ((count_terminals f listen == 0) || (count_callers f listen == 0))

abbrev pub terminals_keep : Config → ServiceFile → TerminalsTable → TerminalsRule → Bool
terminals_keep c f t terminals_rule.PadIsNode = list_any (is_named t.pad.now) c.nodes.items
terminals_keep c f t terminals_rule.PadIsPad = list_any (is_pad_named t.pad.now) c.nodes.items
terminals_keep c f t terminals_rule.FirstIsThere = nat_lt t.first (terminals_in c.nodes.items t.pad.now)
terminals_keep c f t terminals_rule.LastIsThere = has_last c t
terminals_keep c f t terminals_rule.Apart = exactly_one (overlaps c t) f.terminals.items
terminals_keep c f t terminals_rule.ListenOnce = listens_once f t.listen
terminals_keep c f t terminals_rule.GreetingAtTelnet = is_telnet t.mode || is_none t.greeting
terminals_keep c f t terminals_rule.AllowBeyond = is_here (socket_ip t.listen) || is_some t.allow.prefixes

abbrev pub terminals_rules : List TerminalsRule
terminals_rules = terminals_rule.PadIsNode ∷ terminals_rule.PadIsPad ∷ terminals_rule.FirstIsThere
    ∷ terminals_rule.LastIsThere ∷ terminals_rule.Apart ∷ terminals_rule.ListenOnce
    ∷ terminals_rule.GreetingAtTelnet ∷ terminals_rule.AllowBeyond ∷ []

-- ---- services

abbrev pub is_host : NodeKind → Bool
is_host node_kind.Host = true
is_host _ = false

abbrev pub is_host_named : List ℕ → NodeConfig → Bool
is_host_named name n = is_named name n && is_host n.kind

abbrev pub service_keeps : Config → ServiceFile → ServiceTable → ServiceRule → Bool
service_keeps c f s service_rule.HostIsNode = list_any (is_named s.host.now) c.nodes.items
service_keeps c f s service_rule.HostIsHost = list_any (is_host_named s.host.now) c.nodes.items
service_keeps c f s service_rule.HostOnce =
    exactly_one (λ other. same_text s.host.now other.host.now) f.services.items

abbrev pub service_rules : List ServiceRule
service_rules = service_rule.HostIsNode ∷ service_rule.HostIsHost ∷ service_rule.HostOnce ∷ []

-- ---- callers

abbrev pub caller_keeps : Config → ServiceFile → CallerTable → CallerRule → Bool
caller_keeps c f t caller_rule.HostIsNode = list_any (is_named t.host.now) c.nodes.items
caller_keeps c f t caller_rule.HostIsHost = list_any (is_host_named t.host.now) c.nodes.items
caller_keeps c f t caller_rule.ListenOnce = listens_once f t.listen
caller_keeps c f t caller_rule.AllowBeyond = is_here (socket_ip t.listen) || is_some t.allow.prefixes

abbrev pub caller_rules : List CallerRule
caller_rules = caller_rule.HostIsNode ∷ caller_rule.HostIsHost ∷ caller_rule.ListenOnce
    ∷ caller_rule.AllowBeyond ∷ []

-- ---- files

abbrev pub is_control_here : Option SocketAddr → Bool
is_control_here None = true
is_control_here (Some control) = is_here (socket_ip control)

abbrev pub terminals_fit : Config → ServiceFile → TerminalsTable → Bool
terminals_fit c f t = list_all (terminals_keep c f t) terminals_rules

abbrev pub service_fits : Config → ServiceFile → ServiceTable → Bool
service_fits c f s = list_all (service_keeps c f s) service_rules

abbrev pub caller_fits : Config → ServiceFile → CallerTable → Bool
caller_fits c f t = list_all (caller_keeps c f t) caller_rules

-- all rules hold
abbrev pub fits : Config → ServiceFile → Bool
fits c f =
    list_all (terminals_fit c f) f.terminals.items
    && list_all (service_fits c f) f.services.items
    && list_all (caller_fits c f) f.callers.items
    && is_control_here f.control

abbrev pub broken_terminals : Config → ServiceFile → Option BrokenBinding
broken_terminals c f =
    first_at (terminals_fit c f) (terminals_keep c f) terminals_rules broken.Terminals f.terminals.items

abbrev pub broken_service : Config → ServiceFile → Option BrokenBinding
broken_service c f = first_at (service_fits c f) (service_keeps c f) service_rules broken.Service f.services.items

abbrev pub broken_caller : Config → ServiceFile → Option BrokenBinding
broken_caller c f = first_at (caller_fits c f) (caller_keeps c f) caller_rules broken.Caller f.callers.items

abbrev pub broken_control : ServiceFile → Option BrokenBinding
broken_control f = if is_control_here f.control then None else Some broken.ControlBeyond

abbrev pub first_broken : Config → ServiceFile → Option BrokenBinding
first_broken c f =
    option_or (option_or (option_or (broken_terminals c f) (broken_service c f)) (broken_caller c f))
    (broken_control f)

-- the rule does not hold of the table at its place
abbrev pub Breaks : Config → ServiceFile → BrokenBinding → Type 0
Breaks c f (broken.Terminals place rule) =
    (t : TerminalsTable) × (slice_get f.terminals.items place ≡ Some t) × (terminals_keep c f t rule ≡ false)
Breaks c f (broken.Service place rule) =
    (s : ServiceTable) × (slice_get f.services.items place ≡ Some s) × (service_keeps c f s rule ≡ false)
Breaks c f (broken.Caller place rule) =
    (t : CallerTable) × (slice_get f.callers.items place ≡ Some t) × (caller_keeps c f t rule ≡ false)
Breaks c f broken.ControlBeyond = is_control_here f.control ≡ false
