-- How a network is made: its nodes and lines by a plan, each node with users at its line and each switch at its lines.
use Rattle.std.specs.Prelude.{◌≡◌, ℕ, ◌==◌, if◌then◌else◌, List, [], ◌∷◌, map, length}
use Rattle.std.specs.Prelude.{slice_get, Option, Some, None}
use Rattle.link_timers.specs.declared.role.Role.{Role}
use Rattle.link_timers.specs.declared.role.Role.TheVariants.{Dte, Dce}
use Rattle.link_timers.specs.Role.{other_of}
use Rattle.packet_end.specs.declared.params.EndParams.{EndParams}
use Rattle.call_records.specs.Book.{address_of}
use Rattle.call_records.specs.Register.{LinePlan, made_register}
use Rattle.packet_host.specs.Making as host
use Rattle.x25_pad.specs.Making as pad
use Rattle.user_nodes.specs.Node.{NodeState, Pad, Host, frames_of, drained}
use Rattle.frame_lines.specs.Lines.{Flights, no_flights, LineService, ArePut}
use Rattle.switch_lines.specs.Making.{made}
use Rattle.joined_line.specs.declared.config.SwitchLineConfig.{SwitchLineConfig}
use Rattle.net_config.specs.NetPlan.{NewDte, NewPad, NewHost, NewNode, NewSwitch, NewLine, NetPlan, Planned, PlannedUser, PlannedSwitch}
use Rattle.net_events.specs.OneLine.{direction_of}
use Rattle.net_events.specs.Network.{PlacedNode, PlacedSwitch, User, Switching, Network}
use Rattle.net_events.specs.AtSwitch.{switch_drained}

abbrev pub new_dte : NewDte → EndParams → NodeState
new_dte (NewPad params terminals) line =
    Pad (pad.made (record { line = line; params = params; terminals = terminals }))
new_dte NewHost line = Host (host.made (record { role = Dte; line = line }))

abbrev pub new_dce : EndParams → NodeState
new_dce line = Host (host.made (record { role = Dce; line = line }))

abbrev pub new_end : Role → NewDte → EndParams → NodeState
new_end Dte dte params = new_dte dte params
new_end Dce dte params = new_dce params

abbrev pub new_node : NewNode → EndParams → NodeState
new_node n params = new_end n.role n.as_dte params

-- a node that was made, whose first frames went
abbrev pub placed_new : NewNode → EndParams → PlacedNode
placed_new n params = record { line = n.line; node = drained (new_node n params) }

-- the role of the switch of a place on one of its lines
abbrev pub role_on_line : (place : ℕ) → NewLine → Role
role_on_line place l = if l.dce == place then Dce else Dte

-- how the own lines of the switch of a place are made
abbrev pub line_config : (place : ℕ) → NewLine → SwitchLineConfig
line_config place l = record { params = l.params; role = role_on_line place l; address = address_of l.address }

abbrev pub found_config : (place : ℕ) → Option NewLine → List SwitchLineConfig → List SwitchLineConfig
found_config place None configs = configs
found_config place (Some l) configs = line_config place l ∷ configs

abbrev pub own_configs : (place : ℕ) → (own : List ℕ) → (lines : List NewLine) → List SwitchLineConfig
own_configs place [] lines = []
own_configs place (line ∷ own) lines = found_config place (slice_get lines line) (own_configs place own lines)

-- a switch that was made, whose first frames went
abbrev pub placed_switch : (place : ℕ) → NewSwitch → List NewLine → PlacedSwitch
placed_switch place n lines =
    record { lines = n.lines; switch = switch_drained (made n.routes (own_configs place n.lines lines)) }

abbrev pub line_plan : NewLine → LinePlan
line_plan l = record {
  dte_node = l.dte;
  dce_node = l.dce;
  address = l.address;
  channels = l.params.channels;
  standing = l.params.standing;
}

-- the node of a place is made for its line, or lines
abbrev pub NodeIsMade : NetPlan → Network → (place : ℕ) → Planned → Type 0
NodeIsMade plan s place (PlannedUser n) =
    (l : NewLine) → slice_get plan.lines n.line ≡ Some l → slice_get s.nodes place ≡ Some (User (placed_new n l.params))
NodeIsMade plan s place (PlannedSwitch n) =
    slice_get s.nodes place ≡ Some (Switching (placed_switch place n plan.lines))

-- what a node has at its end of a line as it is made; a switch has there what a host has
abbrev pub new_at : Planned → Role → EndParams → NodeState
new_at (PlannedUser n) role params = new_end role n.as_dte params
new_at (PlannedSwitch n) role params = Host (host.made (record { line = params; role = role }))

-- what the two nodes of a line have there
abbrev pub end_of_two : Role → (dte dce : NodeState) → NodeState
end_of_two Dte dte dce = dte
end_of_two Dce dte dce = dce

-- their first frames are put on an empty line, those of one end after those of the other
pub record AreSent (L : LineService) (dte dce : NodeState) (flights : Flights) : Type 0 where
  pub first : Role
  pub between : Flights
  pub from_first : ArePut L (direction_of first) (frames_of (end_of_two first dte dce)) no_flights between
  pub from_other : ArePut L (direction_of (other_of first)) (frames_of (end_of_two (other_of first) dte dce)) between
      flights

-- the line is between its two nodes, whose first frames were put there
pub record LineIsMade (L : LineService) (plan : NetPlan) (s : Network) (line : ℕ) (l : NewLine) : Type 0 where
  pub flights : Flights
  pub there : slice_get s.lines line
      ≡ Some (record { dte = l.dte; dce = l.dce; channels = l.params.channels; flights = flights })
  pub sent : L.faithful → (dte dce : Planned) → slice_get plan.nodes l.dte ≡ Some dte
      → slice_get plan.nodes l.dce ≡ Some dce → AreSent L (new_at dte Dte l.params) (new_at dce Dce l.params) flights

pub record IsMade (L : LineService) (plan : NetPlan) (s : Network) : Type 0 where
  pub node_count : length s.nodes ≡ length plan.nodes
  pub nodes : (place : ℕ) (n : Planned) → slice_get plan.nodes place ≡ Some n → NodeIsMade plan s place n
  pub line_count : length s.lines ≡ length plan.lines
  pub lines : (line : ℕ) (l : NewLine) → slice_get plan.lines line ≡ Some l → LineIsMade L plan s line l
  pub register : s.register ≡ made_register (map line_plan plan.lines)
