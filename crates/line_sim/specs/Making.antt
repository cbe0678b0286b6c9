-- The stages of making a network of nodes that are made: line by line the nodes with users put their first frames, and
-- then the switches, one after the other, put theirs.
use Rattle.std.specs.Prelude.{◌≡◌, ◌≢◌, ℕ, ◌<◌, true, false, Bool, List, [], length, map, set, slice_get, Some}
use Rattle.std.specs.Prelude.{if◌then◌else◌, nat_lt}
use Rattle.lapb.specs.Machine.{Octets}
use Rattle.link_timers.specs.Role.{other_of}
use Rattle.link_timers.specs.declared.role.Role.{Role}
use Rattle.link_timers.specs.declared.role.Role.TheVariants.{Dte, Dce}
use Rattle.call_records.specs.Register.{made_register}
use Rattle.user_nodes.specs.Node.{drained, frames_of}
use Rattle.frame_lines.specs.declared.line.Direction.{Direction}
use Rattle.frame_lines.specs.declared.line.Direction.TheVariants.{FromDte, FromDce}
use Rattle.frame_lines.specs.Lines.{Flights, no_flights, LineService, ArePut}
use Rattle.net_events.specs.AtSwitch.{switch_drained}
use Rattle.net_events.specs.Network.{PlacedNode, PlacedSwitch, NetNode, User, Switching, NetLine}
use Rattle.net_events.specs.OneLine.{direction_of}
use Rattle.net_config.specs.NetPlan.{NewNode, NewSwitch, Planned, PlannedUser, PlannedSwitch, NewLine, NetPlan}
use Rattle.net_events.specs.Opening.{IsMade}
use Rattle.net_events.specs.Opening.{new_at, placed_new, placed_switch, line_plan}
use Rattle.net_node.specs.Making.{waiting_switch}
use Rattle.node_events.specs.Switching.{LinesPut}

-- ---- what has been put on a line

-- the node of a place has put its first frames: one with users, as its line began, and a switch before the place that
-- is next
abbrev pub has_put : (next : ℕ) → (place : ℕ) → Planned → Bool
has_put next place (PlannedUser n) = true
has_put next place (PlannedSwitch n) = nat_lt place next

-- its first frames on a line at the end of a role of which it is, if it has put them
abbrev pub frames_put : (next : ℕ) → (place : ℕ) → Planned → Role → NewLine → List Octets
frames_put next place p role l = if has_put next place p then frames_of (new_at p role l.params) else []

abbrev pub put_at : Role → (next : ℕ) → NewLine → (dte dce : Planned) → List Octets
put_at Dte next l dte dce = frames_put next l.dte dte Dte l
put_at Dce next l dte dce = frames_put next l.dce dce Dce l

-- the end whose frames are put first: the DTE, but of a trunk the DCE, which comes earlier
abbrev pub first_end : (dte : Planned) → Role
first_end (PlannedUser n) = Dte
first_end (PlannedSwitch n) = Dce

pub record ArePutSoFar (L : LineService) (next : ℕ) (l : NewLine) (dte dce : Planned) (flights : Flights)
    : Type 0 where
  pub between : Flights
  pub from_first : ArePut L (direction_of (first_end dte)) (put_at (first_end dte) next l dte dce) no_flights between
  pub from_other : ArePut L (direction_of (other_of (first_end dte))) (put_at (other_of (first_end dte)) next l dte dce)
      between flights

-- the line is between its two nodes
pub record LineHasBegun (L : LineService) (next : ℕ) (plan : NetPlan) (lines : List NetLine) (line : ℕ) (l : NewLine)
    : Type 0 where
  pub flights : Flights
  pub there : slice_get lines line
      ≡ Some (record { dte = l.dte; dce = l.dce; channels = l.params.channels; flights = flights })
  pub sent : L.faithful → (dte dce : Planned) → slice_get plan.nodes l.dte ≡ Some dte
      → slice_get plan.nodes l.dce ≡ Some dce → ArePutSoFar L next l dte dce flights

-- so many lines have begun, and these are they
pub record HaveBegun (L : LineService) (next : ℕ) (begun : ℕ) (plan : NetPlan) (lines : List NetLine) : Type 0 where
  pub count : length lines ≡ begun
  pub there : (line : ℕ) (l : NewLine) → line < begun → slice_get plan.lines line ≡ Some l
      → LineHasBegun L next plan lines line l

-- ---- one line begins

-- the places of the two nodes of a line
pub record HasEnds (l : NewLine) (nodes : List NetNode) : Type 0 where
  pub dte : l.dte < length nodes
  pub dce : l.dce < length nodes
  pub apart : l.dte ≢ l.dce

-- the frames that wait at a node with users, and the node when they went; those of a switch wait still
abbrev pub users_frames : NetNode → List Octets
users_frames (User n) = frames_of n.node
users_frames (Switching n) = []

abbrev pub begun : PlacedNode → PlacedNode
begun n = record n { node = drained n.node }

abbrev pub begun_node : NetNode → NetNode
begun_node (User n) = User (begun n)
begun_node (Switching n) = Switching n

-- they are put on its line
pub record PutsFirst (L : LineService) (d : Direction) (n : NetNode) (before : Flights) (after : NetNode)
    (flights : Flights) : Type 0 where
  pub node_is : after ≡ begun_node n
  pub put : L.faithful → ArePut L d (users_frames n) before flights

-- a line begins: the frames of its nodes with users are put there
pub record Begins (L : LineService) (l : NewLine) (dte dce : NetNode) (old new : List NetNode) (flights : Flights)
    : Type 0 where
  pub nodes : new ≡ set (set old l.dte (begun_node dte)) l.dce (begun_node dce)
  pub between : Flights
  pub from_dte : L.faithful → ArePut L FromDte (users_frames dte) no_flights between
  pub from_dce : L.faithful → ArePut L FromDce (users_frames dce) between flights

-- ---- one switch begins

-- the frames of a switch can be put on its lines
pub record CanBegin (n : PlacedSwitch) (lines : List NetLine) : Type 0 where
  pub count : length n.lines ≡ length n.switch.lines
  pub apart : (at other line : ℕ) → slice_get n.lines at ≡ Some line → slice_get n.lines other ≡ Some line
      → at ≡ other
  pub there : (at line : ℕ) → slice_get n.lines at ≡ Some line → line < length lines

-- they were put, and went
pub record SwitchBegins (L : LineService) (n : PlacedSwitch) (before : List NetLine) (node : NetNode)
    (after : List NetLine) : Type 0 where
  pub node_is : node ≡ Switching (record n { switch = switch_drained n.switch })
  pub lines_put : LinesPut L false n.lines n.switch before after

-- the switch of a place: its frames went where it stands before the place that is next
abbrev pub switch_to : (next : ℕ) → (place : ℕ) → NewSwitch → List NewLine → PlacedSwitch
switch_to next place n lines = if nat_lt place next then placed_switch place n lines else waiting_switch place n lines

-- the nodes where all lines have begun, and the switches before the place that is next
pub record HaveNodesBegun (next : ℕ) (plan : NetPlan) (nodes : List NetNode) : Type 0 where
  pub count : length nodes ≡ length plan.nodes
  pub users : (place : ℕ) (n : NewNode) (l : NewLine) → slice_get plan.nodes place ≡ Some (PlannedUser n)
      → slice_get plan.lines n.line ≡ Some l → slice_get nodes place ≡ Some (User (placed_new n l.params))
  pub switches : (place : ℕ) (n : NewSwitch) → slice_get plan.nodes place ≡ Some (PlannedSwitch n)
      → slice_get nodes place ≡ Some (Switching (switch_to next place n plan.lines))

-- nodes and lines are as a network that is made by the plan has them
abbrev pub IsMadeOf : LineService → NetPlan → List NetNode → List NetLine → Type 0
IsMadeOf L plan nodes lines =
    IsMade L plan (record { nodes = nodes; lines = lines; register = made_register (map line_plan plan.lines) })
