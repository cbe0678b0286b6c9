-- A run: the plan of a network, and what happens in it, stage by stage, with what is so after each of them.
use Rattle.std.specs.Prelude.{◌≡◌, ℕ, zero, suc, Bool, true, false, ◌&&◌, ◌==◌, nat_eq, List, [], ◌∷◌, length, slice_get}
use Rattle.std.specs.Prelude.{Option, Some, None, MatchOption}
use Rattle.std.specs.Option.{option_and_then, option_map_or}
use Rattle.std.specs.List.{list_all}
use Rattle.std.specs.Cmp.Lexicographic.{pointwise}
use Rattle.link_timers.specs.declared.role.Role.TheVariants.{Dte, Dce}
use Rattle.epochs.specs.Item.{DataPacket}
use Rattle.packet_layer.specs.Layer.{confirmed}
use Rattle.packet_end.specs.declared.params.EndParams.{EndParams}
use Rattle.call_records.specs.Records.{PairValue, HopValue}
use Rattle.user_nodes.specs.Node.{end_of, node_rests}
use Rattle.frame_lines.specs.Lines.{Flights, lossless_service}
use Rattle.switch_lines.specs.Switch.{switch_rests}
use Rattle.net_config.specs.NetPlan.{NetPlan, NewLine, NewHost, Planned, PlannedUser, IsPlan}
use Rattle.net_events.specs.Network.{NetNode, User, Switching, Network}
use Rattle.net_events.specs.Opening.{IsMade}
use Rattle.network_laws.specs.NetworkRest.{MissesNothing}
use Rattle.network_laws.specs.Switched.IsSwitched.{IsAny}
use Rattle.network_laws.specs.Switched.InnerPromise.{NetworkPromise}
use Rattle.network_laws.specs.Switched.SwitchedRest.{AreAllAtRest}
use Rattle.network_runs.specs.Acting.{Act, AtNode, AtSwitch, Arrives, Calling, IsLost}
use Rattle.network_runs.specs.Acting.{Incomer, acted, Goes, IsCalling}
use Rattle.network_runs.specs.Making.{is_plan, network_of}

-- what happens, and what is tested then
pub record Stage : Type 0 where
  pub acts : List Act
  pub test : Network → Bool

abbrev pub acted_all : List Act → Network → Option Network
acted_all [] s = Some s
acted_all (act ∷ acts) s = option_and_then (λ t. acted_all acts t) (acted act s)

-- all acts may happen, and the test of each stage is passed
abbrev pub passes : List Stage → Network → Bool
passes [] s = true
passes (stage ∷ stages) s =
    option_map_or (λ t. stage.test t && passes stages t) (acted_all stage.acts s) false

-- each call that comes to a switch is what its act says
abbrev pub AreCalling : List Act → Network → Type 0
AreCalling [] s = Unit {0}
AreCalling (AtNode line role event ∷ acts) s =
    MatchOption (acted (AtNode line role event) s) (Unit {0}) (λ t. AreCalling acts t)
AreCalling (AtSwitch place event ∷ acts) s =
    MatchOption (acted (AtSwitch place event) s) (Unit {0}) (λ t. AreCalling acts t)
AreCalling (Arrives line to ∷ acts) s =
    MatchOption (acted (Arrives line to) s) (Unit {0}) (λ t. AreCalling acts t)
AreCalling (Calling line to call ∷ acts) s =
    IsCalling (Calling line to call) s
    × MatchOption (acted (Calling line to call) s) (Unit {0}) (λ t. AreCalling acts t)
AreCalling (IsLost line d ∷ acts) s = MatchOption (acted (IsLost line d) s) (Unit {0}) (λ t. AreCalling acts t)

abbrev pub AllCalling : List Stage → Network → Type 0
AllCalling [] s = Unit {0}
AllCalling (stage ∷ stages) s =
    AreCalling stage.acts s × MatchOption (acted_all stage.acts s) (Unit {0}) (λ t. AllCalling stages t)

-- ---- what happens

-- one frame of each direction of each of these lines arrives, so many times; then these acts
abbrev pub pass : (lines : List ℕ) → List Act → List Act
pass [] acts = acts
pass (line ∷ lines) acts = Arrives line Dce ∷ Arrives line Dte ∷ pass lines acts

abbrev pub passes_of : (lines : List ℕ) → ℕ → List Act → List Act
passes_of lines zero acts = acts
passes_of lines (suc n) acts = pass lines (passes_of lines n acts)

-- a call that gives no calling address, or this one, comes in on channel 1
abbrev pub call_to : (called calling : List ℕ) → (route : Option ℕ) → Incomer
call_to called calling route = record {
  channel = 1;
  parts = record { called = called; calling = calling; facilities = []; user_part = [] };
  route = route;
}

-- ---- the plan

-- a host that is the DTE of a line, and a line on which no call stands
abbrev pub new_host : (line : ℕ) → Planned
new_host line = PlannedUser (record { line = line; role = Dte; as_dte = NewHost })

abbrev pub line_of : (dte dce : ℕ) → (address : List ℕ) → EndParams → NewLine
line_of dte dce address params = record { dte = dte; dce = dce; address = address; params = params }

-- ---- what may be tested

abbrev pub is_node_at_rest : NetNode → Bool
is_node_at_rest (User n) = node_rests n.node
is_node_at_rest (Switching n) = switch_rests n.switch

abbrev pub flies_nothing : Flights → Bool
flies_nothing f = (length f.from_dte == 0) && (length f.from_dce == 0)

-- no frame is in flight, and the nodes are at rest
abbrev pub is_at_rest : Network → Bool
is_at_rest s = list_all is_node_at_rest s.nodes && list_all (λ l. flies_nothing l.flights) s.lines

-- the host of a place says of a channel that delivery is confirmed
abbrev pub confirms : (channel : ℕ) → Option NetNode → Bool
confirms channel None = false
confirms channel (Some (User n)) = confirmed (end_of n.node).layer channel
confirms channel (Some (Switching n)) = false

abbrev pub is_confirmed : (place channel : ℕ) → Network → Bool
is_confirmed place channel s = confirms channel (slice_get s.nodes place)

abbrev pub are_packets : List DataPacket → (texts : List (List ℕ)) → Bool
are_packets packets texts = pointwise (λ p octets. pointwise nat_eq p.octets octets) packets texts

-- the first record called the second one, in the one pair
abbrev pub is_one : List PairValue → Bool
is_one [] = false
is_one (p ∷ []) = (p.caller == 0) && (p.callee == 1)
is_one (p ∷ q ∷ pairs) = false

abbrev pub is_hop : (switch line : ℕ) → HopValue → Bool
is_hop switch line h = (h.switch == switch) && (h.line == line)

-- ---- a run

-- the acts of the stage are steps of the network, which is one of which the laws speak then, with what it promises
pub record Reaches (stage : Stage) (s t : Network) : Type 0 where
  pub computed : acted_all stage.acts s ≡ Some t
  pub goes : Goes s t
  pub passes : stage.test t ≡ true
  pub is_any : IsAny lossless_service t
  pub holds : NetworkPromise t
  -- where all is at rest nothing is missing
  pub rests : is_at_rest t ≡ true → AreAllAtRest t.nodes × MissesNothing t

abbrev pub GoesThrough : List Stage → Network → Type 0
GoesThrough [] s = Unit {0}
GoesThrough (stage ∷ stages) s = (t : Network) × Reaches stage s t × GoesThrough stages t

pub record IsRun (plan : NetPlan) (stages : List Stage) : Type 0 where
  pub may_be_planned : IsPlan plan
  pub is_made : IsMade lossless_service plan (network_of plan)
  pub goes : GoesThrough stages (network_of plan)

-- **a plan and a list of acts are a run if they pass the tests**
abbrev pub RunLaw : Type 0
RunLaw = (plan : NetPlan) (stages : List Stage) → is_plan plan ≡ true → AllCalling stages (network_of plan)
    → passes stages (network_of plan) ≡ true → IsRun plan stages
