-- What a network is made with: its nodes, each with users and at one line, or a switch at its lines, and its lines, each
-- between two nodes. The switches are trees.
use Rattle.std.specs.Prelude.{◌≡◌, ◌≢◌, ℕ, suc, ◌≤◌, ◌<◌, ◌⊎◌, false, List, [], ◌∷◌, length}
use Rattle.std.specs.Prelude.{slice_get, Some}
use Rattle.link_timers.specs.declared.role.Role.{Role}
use Rattle.link_timers.specs.declared.role.Role.TheVariants.{Dte, Dce}
use Rattle.packet_codec.specs.Address.{AreDigits}
use Rattle.packet_end.specs.Params.{AreParams}
use Rattle.packet_end.specs.declared.params.EndParams.{EndParams}
use Rattle.address_routes.specs.Routes.{RouteMap}

-- the DTE is a PAD with so many terminals, each with these parameters, or a host, on a line of these parameters
pub data NewDte : Type 0 where
  NewPad : (params : List ℕ) → (terminals : ℕ) → NewDte
  NewHost : NewDte

-- a node with users: its line and the end of it that it is, and what a DTE is made as
pub record NewNode : Type 0 where
  pub line : ℕ
  pub role : Role
  pub as_dte : NewDte

-- a switch: the lines of the network that its own lines are, in order, and its routes to its own lines
pub record NewSwitch : Type 0 where
  pub lines : List ℕ
  pub routes : RouteMap

pub data Planned : Type 0 where
  PlannedUser : NewNode → Planned
  PlannedSwitch : NewSwitch → Planned

-- a line: the places of its nodes, the address that a user's line has at a switch, of no digits elsewhere, and the
-- parameters of both ends
pub record NewLine : Type 0 where
  pub dte : ℕ
  pub dce : ℕ
  pub address : List ℕ
  pub params : EndParams

pub record NetPlan : Type 0 where
  pub nodes : List Planned
  pub lines : List NewLine

-- ---- plans of networks that there can be

-- a PAD has 1 to 16 terminals, and packets of 128 octets on its line
abbrev pub IsNewDte : NewDte → EndParams → Type 0
IsNewDte (NewPad params terminals) line = (1 ≤ terminals) × (terminals ≤ 16) × (line.flow.size ≡ 128)
IsNewDte NewHost line = Unit {0}

-- a node is at the end of a role of a line: one with users was made for it, and a switch has it as one of its own lines
abbrev pub IsEndPlan : (line : ℕ) → Role → Planned → Type 0
IsEndPlan line role (PlannedUser n) = (n.line ≡ line) × (n.role ≡ role)
IsEndPlan line role (PlannedSwitch n) = (own : ℕ) × (slice_get n.lines own ≡ Some line)

-- a line between users has no address, and one from a user to a switch has the user's. A line between switches is a
-- trunk: it has no address, and its DCE comes earlier. No switch is the DTE of a user's line. A call stands only
-- between users
abbrev pub IsKindOfLine : NewLine → (dte dce : Planned) → Type 0
IsKindOfLine l (PlannedUser dte) (PlannedUser dce) = IsNewDte dte.as_dte l.params × (l.address ≡ [])
IsKindOfLine l (PlannedUser dte) (PlannedSwitch dce) =
    IsNewDte dte.as_dte l.params × AreDigits l.address × (l.params.standing ≡ false)
IsKindOfLine l (PlannedSwitch dte) (PlannedSwitch dce) =
    (l.address ≡ []) × (l.dce < l.dte) × (l.params.standing ≡ false)
IsKindOfLine l (PlannedSwitch dte) (PlannedUser dce) = ⊥

-- the two nodes of a line are there, one at each end of it
pub record IsLinePlan (nodes : List Planned) (line : ℕ) (l : NewLine) : Type 0 where
  pub dte : Planned
  pub dce : Planned
  pub dte_there : slice_get nodes l.dte ≡ Some dte
  pub dce_there : slice_get nodes l.dce ≡ Some dce
  pub dte_stands : IsEndPlan line Dte dte
  pub dce_stands : IsEndPlan line Dce dce
  pub kind : IsKindOfLine l dte dce
  pub apart : l.dte ≢ l.dce
  pub params : AreParams l.params

-- the node of this place is at an end of a line
pub record HasEndAt (lines : List NewLine) (place line : ℕ) : Type 0 where
  pub line_is : NewLine
  pub there : slice_get lines line ≡ Some line_is
  pub at_end : (line_is.dte ≡ place) ⊎ (line_is.dce ≡ place)

-- a switch has 1 to 64 lines, no line of the network twice, and is at an end of each
pub record IsSwitchPlan (lines : List NewLine) (place : ℕ) (n : NewSwitch) : Type 0 where
  pub least : 1 ≤ length n.lines
  pub most : length n.lines ≤ 64
  pub apart : (own other line : ℕ) → slice_get n.lines own ≡ Some line → slice_get n.lines other ≡ Some line
      → own ≡ other
  pub each : (own line : ℕ) → slice_get n.lines own ≡ Some line → HasEndAt lines place line

-- a node with users is at an end of its line, and a switch at an end of each of its lines
abbrev pub IsNodePlan : (lines : List NewLine) → (place : ℕ) → Planned → Type 0
IsNodePlan lines place (PlannedUser n) = HasEndAt lines place n.line
IsNodePlan lines place (PlannedSwitch n) = IsSwitchPlan lines place n

-- the places of the switches, if the first node is at this one
abbrev pub switch_places : (first : ℕ) → List Planned → List ℕ
switch_places first [] = []
switch_places first (PlannedUser n ∷ nodes) = switch_places (suc first) nodes
switch_places first (PlannedSwitch n ∷ nodes) = first ∷ switch_places (suc first) nodes

-- at most 16 of the nodes are switches, and each of them is the DTE of at most one line
pub record IsPlan (plan : NetPlan) : Type 0 where
  pub lines : (line : ℕ) (l : NewLine) → slice_get plan.lines line ≡ Some l → IsLinePlan plan.nodes line l
  pub nodes : (place : ℕ) (n : Planned) → slice_get plan.nodes place ≡ Some n → IsNodePlan plan.lines place n
  pub few_switches : length (switch_places 0 plan.nodes) ≤ 16
  pub one_up : (line other : ℕ) (k l : NewLine) (n : NewSwitch) → slice_get plan.lines line ≡ Some k
      → slice_get plan.lines other ≡ Some l → slice_get plan.nodes k.dte ≡ Some (PlannedSwitch n) → k.dte ≡ l.dte
      → line ≡ other

-- no node is a switch
abbrev pub AreUsers : List Planned → Type 0
AreUsers nodes = (place : ℕ) (n : Planned) → slice_get nodes place ≡ Some n → (user : NewNode) × (n ≡ PlannedUser user)
