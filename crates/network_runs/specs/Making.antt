-- The network that a plan makes, by computation, with the first frames of both ends in flight on each line.
use Rattle.std.specs.Prelude.{◌≡◌, ℕ, suc, Bool, true, false, ◌&&◌, ◌||◌, ◌==◌, not, nat_le, is_none, is_some}
use Rattle.std.specs.Prelude.{List, [], ◌∷◌, length, map, slice_get, Option, Some, None}
use Rattle.std.specs.List.{list_all}
use Rattle.link_timers.specs.declared.role.Role.{Role}
use Rattle.link_timers.specs.declared.role.Role.TheVariants.{Dte, Dce}
use Rattle.data_transfer.specs.declared.flow.Flow.{Flow}
use Rattle.data_transfer.specs.Flow.{modulo_8, most_window, is_size}
use Rattle.packet_end.specs.Params.{info_of}
use Rattle.packet_end.specs.declared.params.EndParams.{EndParams}
use Rattle.frame_codec.specs.Spelling.{most_information}
use Rattle.call_records.specs.Register.{made_register}
use Rattle.user_nodes.specs.Node.{frames_of}
use Rattle.frame_lines.specs.declared.line.Direction.TheVariants.{FromDte, FromDce}
use Rattle.frame_lines.specs.Lines.{Flights, lossless_service, no_flights}
use Rattle.net_config.specs.NetPlan.{NewDte, NewPad, NewHost, NewLine, NetPlan, Planned, IsPlan}
use Rattle.net_config.specs.NetPlan.{PlannedUser, PlannedSwitch, switch_places}
use Rattle.net_events.specs.Network.{NetNode, User, Switching, NetLine, Network}
use Rattle.net_events.specs.Opening.{placed_new, placed_switch, line_plan, new_at, IsMade}
use Rattle.network_runs.specs.Acting.{map_numbered, place_among, put_all, are_digits, same_role}

-- ---- the network

-- of no line
abbrev pub no_params : EndParams
no_params = record { k = 1; n2 = 1; channels = 1; flow = modulo_8 1; standing = false }

abbrev pub params_of : Option NewLine → EndParams
params_of None = no_params
params_of (Some l) = l.params

abbrev pub new_node : NetPlan → (place : ℕ) → Planned → NetNode
new_node plan place (PlannedUser n) = User (placed_new n (params_of (slice_get plan.lines n.line)))
new_node plan place (PlannedSwitch n) = Switching (placed_switch place n plan.lines)

-- what a node sends first at its end of a line
abbrev pub first_frames : Option Planned → Role → EndParams → List (List ℕ)
first_frames None role params = []
first_frames (Some n) role params = frames_of (new_at n role params)

abbrev pub first_flights : NetPlan → NewLine → Flights
first_flights plan l =
    put_all FromDce (first_frames (slice_get plan.nodes l.dce) Dce l.params)
    (put_all FromDte (first_frames (slice_get plan.nodes l.dte) Dte l.params) no_flights)

abbrev pub new_line : NetPlan → NewLine → NetLine
new_line plan l =
    record { dte = l.dte; dce = l.dce; channels = l.params.channels; flights = first_flights plan l }

abbrev pub network_of : NetPlan → Network
network_of plan = record {
  nodes = map_numbered (new_node plan) 0 plan.nodes;
  lines = map (new_line plan) plan.lines;
  register = made_register (map line_plan plan.lines);
}

-- ---- whether there can be such a network

abbrev pub all_numbered : {A : Type 0} → (ℕ → A → Bool) → (first : ℕ) → List A → Bool
all_numbered test first [] = true
all_numbered test first (x ∷ xs) = test first x && all_numbered test (suc first) xs

abbrev pub is_flow : Flow → Bool
is_flow flow = nat_le 1 flow.window && (nat_le flow.window (most_window flow.numbering) && is_size flow.size)

abbrev pub is_between : (least most n : ℕ) → Bool
is_between least most n = nat_le least n && nat_le n most

abbrev pub are_params : EndParams → Bool
are_params p =
    is_between 1 7 p.k
    && (is_between 1 20 p.n2
    && (nat_le (info_of p.flow) most_information && (is_between 1 32 p.channels && is_flow p.flow)))

abbrev pub is_new_dte : NewDte → EndParams → Bool
is_new_dte (NewPad params terminals) line = is_between 1 16 terminals && (line.flow.size == 128)
is_new_dte NewHost line = true

abbrev pub is_end_plan : (line : ℕ) → Role → Planned → Bool
is_end_plan line role (PlannedUser n) = (n.line == line) && same_role n.role role
is_end_plan line role (PlannedSwitch n) = is_some (place_among n.lines line)

abbrev pub is_empty : List ℕ → Bool
is_empty [] = true
is_empty (x ∷ xs) = false

abbrev pub is_kind_of_line : NewLine → (dte dce : Planned) → Bool
is_kind_of_line l (PlannedUser dte) (PlannedUser dce) = is_new_dte dte.as_dte l.params && is_empty l.address
is_kind_of_line l (PlannedUser dte) (PlannedSwitch dce) =
    is_new_dte dte.as_dte l.params && (are_digits l.address && not l.params.standing)
is_kind_of_line l (PlannedSwitch dte) (PlannedSwitch dce) =
    is_empty l.address && (nat_le (suc l.dce) l.dte && not l.params.standing)
is_kind_of_line l (PlannedSwitch dte) (PlannedUser dce) = false

abbrev pub are_its_ends : (line : ℕ) → NewLine → (dte dce : Option Planned) → Bool
are_its_ends line l None dce = false
are_its_ends line l (Some dte) None = false
are_its_ends line l (Some dte) (Some dce) =
    is_end_plan line Dte dte
    && (is_end_plan line Dce dce
    && (is_kind_of_line l dte dce && (not (l.dte == l.dce) && are_params l.params)))

abbrev pub is_line_plan : List Planned → (line : ℕ) → NewLine → Bool
is_line_plan nodes line l = are_its_ends line l (slice_get nodes l.dte) (slice_get nodes l.dce)

abbrev pub ends_at : (place : ℕ) → Option NewLine → Bool
ends_at place None = false
ends_at place (Some l) = (l.dte == place) || (l.dce == place)

abbrev pub are_apart : List ℕ → Bool
are_apart [] = true
are_apart (x ∷ xs) = is_none (place_among xs x) && are_apart xs

abbrev pub is_node_plan : List NewLine → (place : ℕ) → Planned → Bool
is_node_plan lines place (PlannedUser n) = ends_at place (slice_get lines n.line)
is_node_plan lines place (PlannedSwitch n) =
    is_between 1 64 (length n.lines)
    && (are_apart n.lines && list_all (λ line. ends_at place (slice_get lines line)) n.lines)

abbrev pub is_switch : Option Planned → Bool
is_switch None = false
is_switch (Some (PlannedUser n)) = false
is_switch (Some (PlannedSwitch n)) = true

-- no switch that is the DTE of one of two lines is that of the other one too
abbrev pub are_two_up : List Planned → (line : ℕ) → NewLine → (other : ℕ) → NewLine → Bool
are_two_up nodes line k other l =
    not (is_switch (slice_get nodes k.dte)) || ((line == other) || not (k.dte == l.dte))

abbrev pub is_plan : NetPlan → Bool
is_plan plan =
    all_numbered (is_line_plan plan.nodes) 0 plan.lines
    && (all_numbered (is_node_plan plan.lines) 0 plan.nodes
    && (nat_le (length (switch_places 0 plan.nodes)) 16
    && all_numbered (λ line k. all_numbered (are_two_up plan.nodes line k) 0 plan.lines) 0 plan.lines))

-- **a plan that passes the test is one of a network that there can be, and this network is made as planned**
pub record MakingLaw : Type 0 where
  pub plan : (plan : NetPlan) → is_plan plan ≡ true → IsPlan plan
  pub made : (plan : NetPlan) → IsMade lossless_service plan (network_of plan)
