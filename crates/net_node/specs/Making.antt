-- The nodes of a plan: as they are made, their first frames waiting, and as they are once lines have begun.
use Rattle.std.specs.Prelude.{◌≡◌, ℕ, ◌<◌, Bool, false, List, [], ◌∷◌, length, slice_get, Some}
use Rattle.std.specs.Prelude.{if◌then◌else◌, nat_lt}
use Rattle.packet_end.specs.declared.params.EndParams.{EndParams}
use Rattle.switch_lines.specs.Making.{made, IsConfig}
use Rattle.net_events.specs.Network.{PlacedNode, PlacedSwitch, NetNode, User, Switching}
use Rattle.net_config.specs.NetPlan.{NewNode, NewSwitch, Planned, PlannedUser, PlannedSwitch, NewLine, NetPlan}
use Rattle.net_events.specs.Opening.{new_node, placed_new, own_configs}

-- a node that was made, whose first frames wait
abbrev pub waiting : NewNode → EndParams → PlacedNode
waiting n params = record { line = n.line; node = new_node n params }

-- the switch of a place that was made, whose first frames wait
abbrev pub waiting_switch : (place : ℕ) → NewSwitch → List NewLine → PlacedSwitch
waiting_switch place n lines = record { lines = n.lines; switch = made n.routes (own_configs place n.lines lines) }

-- the node of a place of the plan as it is made, its first frames waiting
abbrev pub IsNewNode : NetPlan → (place : ℕ) → Planned → NetNode → Type 0
IsNewNode plan place (PlannedUser n) node =
    (l : NewLine) → slice_get plan.lines n.line ≡ Some l → node ≡ User (waiting n l.params)
IsNewNode plan place (PlannedSwitch n) node = node ≡ Switching (waiting_switch place n plan.lines)

-- the node is one of the plan's
pub record IsOfPlan (plan : NetPlan) (n : Planned) : Type 0 where
  pub place : ℕ
  pub there : slice_get plan.nodes place ≡ Some n

-- the own lines of the switch of a place can be made
pub record CanMakeLines (place : ℕ) (own : List ℕ) (lines : List NewLine) : Type 0 where
  pub config : IsConfig (own_configs place own lines)
  pub each : (at line : ℕ) → slice_get own at ≡ Some line → line < length lines

-- its frames went where its line is one of the first so many
abbrev pub begun_to : (lines : ℕ) → NewNode → EndParams → PlacedNode
begun_to lines n params = if nat_lt n.line lines then placed_new n params else waiting n params

-- the nodes where so many lines have begun; a switch waits till all have
pub record AreNew (begun : ℕ) (plan : NetPlan) (nodes : List NetNode) : Type 0 where
  pub count : length nodes ≡ length plan.nodes
  pub there : (place : ℕ) (n : NewNode) (l : NewLine) → slice_get plan.nodes place ≡ Some (PlannedUser n)
      → slice_get plan.lines n.line ≡ Some l → slice_get nodes place ≡ Some (User (begun_to begun n l.params))
  pub switches : (place : ℕ) (n : NewSwitch) → slice_get plan.nodes place ≡ Some (PlannedSwitch n)
      → slice_get nodes place ≡ Some (Switching (waiting_switch place n plan.lines))

-- a call stands on the first line
abbrev pub stands : List NewLine → Bool
stands [] = false
stands (l ∷ lines) = l.params.standing

-- no call stands on any of these lines
abbrev pub AreFree : List NewLine → Type 0
AreFree lines = (line : ℕ) (l : NewLine) → slice_get lines line ≡ Some l → l.params.standing ≡ false
