-- What holds of a network between events, with any number of switches or without one.
use Rattle.std.specs.Prelude.{◌≡◌, ◌≢◌, ℕ, false, List, length, slice_get, Option, Some}
use Rattle.link_timers.specs.declared.role.Role.{Role}
use Rattle.link_timers.specs.declared.role.Role.TheVariants.{Dte, Dce}
use Rattle.call_records.specs.Book.{Book, side_of}
use Rattle.node_laws.specs.Lines.NodeLine.{Line}
use Rattle.node_laws.specs.Quiet.{IsQuiet}
use Rattle.user_nodes.specs.Node.{NodeState, Host, end_of, is_pad}
use Rattle.frame_lines.specs.Lines.{LineService}
use Rattle.switch_lines.specs.Lines.{SwitchLine}
use Rattle.switched_call_laws.specs.SwitchRecords.Tied.{Histories}
use Rattle.switched_call_laws.specs.SwitchPaths.Sight.{Switched, Switches, OwnLines, Lines}
use Rattle.switched_call_laws.specs.SwitchPaths.Network.{PlacedCall}
use Rattle.switched_call_laws.specs.SwitchPaths.Network as paths
use Rattle.record_laws.specs.CallPaths.World.{Origin, World, Plan}
use Rattle.record_laws.specs.CallPaths.OwnAddresses.{HaveOwnAddresses}
use Rattle.net_events.specs.OneLine.{LineState}
use Rattle.net_events.specs.Network.{PlacedNode, PlacedSwitch, NetNode, User, Switching, NetLine, Network, Stands}
use Rattle.net_events.specs.Network.{place_at}
use Rattle.network_laws.specs.IsLine.{IsLine}
use Rattle.network_laws.specs.Switched.Plans.{IsPlanOf}

-- ---- the two ends of a line

-- one line with what is at its ends, and with a book of its own
abbrev pub ends_state : NetLine → (at : Role → NodeState) → Book → LineState
ends_state l at book = record {
  dte_place = l.dte;
  dce_place = l.dce;
  dte = at Dte;
  dce = at Dce;
  flights = l.flights;
  book = book;
}

-- the two ends and the frames in flight
abbrev pub line_between : NetLine → (at : Role → NodeState) → Line
line_between l at = record {
  dte = end_of (at Dte);
  dce = end_of (at Dce);
  up = l.flights.from_dte;
  down = l.flights.from_dce;
}

-- what a node has at a line: one with users is there itself, and a switch has its own end of the line, which is as that
-- of a host
abbrev pub IsEndOf : NetNode → (line : ℕ) → NodeState → Type 0
IsEndOf (User n) line x = (n.line ≡ line) × (x ≡ n.node)
IsEndOf (Switching n) line x = (own : ℕ) × (l : SwitchLine) × (slice_get n.lines own ≡ Some line)
    × (slice_get n.switch.lines own ≡ Some l) × (x ≡ Host l.end)

-- the node of a place has this at a line
pub record EndStands (nodes : List NetNode) (line place : ℕ) (x : NodeState) : Type 0 where
  pub node : NetNode
  pub there : slice_get nodes place ≡ Some node
  pub end : IsEndOf node line x

-- a node with users is there
abbrev pub IsUserThere : List NetNode → (place : ℕ) → Type 0
IsUserThere nodes place = (n : PlacedNode) × (slice_get nodes place ≡ Some (User n))

-- two nodes are at the ends of a line, users or switches, and nothing waits at either end. A PAD is the DTE, and where
-- the DCE has users the DTE has users too
pub record LineStands (nodes : List NetNode) (line : ℕ) (l : NetLine) : Type 0 where
  pub at : Role → NodeState
  pub there : (role : Role) → EndStands nodes line (place_at role l) (at role)
  pub quiet : (role : Role) → IsQuiet (at role)
  pub apart : l.dte ≢ l.dce
  pub host : is_pad (at Dce) ≡ false
  pub users : IsUserThere nodes l.dce → IsUserThere nodes l.dte

-- ---- on faithful lines

-- this is a switch of the network, with its lines and with some histories
pub record IsSwitchAt (n : PlacedSwitch) (own : List ℕ) (x : Option Switched) : Type 0 where
  pub histories : Histories
  pub is : x ≡ Some (record { switch = n.switch; histories = histories })
  pub lines : own ≡ n.lines

-- each line has a book that nobody stores, of its two ends, and the register is the one that the laws of paths through
-- these switches have beside these books and lines
pub record IsHeld (L : LineService) (s : Network) : Type 0 where
  pub books : List Book
  pub count : length books ≡ length s.lines
  pub ends : (line : ℕ) (l : NetLine) (book : Book) → slice_get s.lines line ≡ Some l
      → slice_get books line ≡ Some book → (h : LineStands s.nodes line l) → IsLine L (ends_state l h.at book)
  pub channels : (line : ℕ) (l : NetLine) (book : Book) (role : Role) → slice_get s.lines line ≡ Some l
      → slice_get books line ≡ Some book → length (side_of role book).slots ≡ l.channels
  pub lines : Lines
  pub lines_are : (line : ℕ) (l : NetLine) → slice_get s.lines line ≡ Some l → (h : LineStands s.nodes line l)
      → (lines line).line ≡ line_between l h.at
  pub plan : Plan
  pub plan_is : IsPlanOf s plan
  pub own_lines : OwnLines
  pub switches : Switches
  pub switches_are : (place : ℕ) (n : PlacedSwitch) → slice_get s.nodes place ≡ Some (Switching n)
      → IsSwitchAt n (own_lines place) (switches place)
  pub calls : List PlacedCall
  pub world : World
  pub traces : List (List Origin)
  pub network : paths.IsNetwork plan own_lines switches calls lines books world traces
  pub register : world.register ≡ s.register

-- ---- on any lines

-- nodes and lines stand at each other, and nothing waits at any node
pub record IsSwitched (L : LineService) (s : Network) : Type 0 where
  pub lines : (line : ℕ) (l : NetLine) → slice_get s.lines line ≡ Some l → LineStands s.nodes line l
  pub nodes : (at : ℕ) (n : NetNode) → slice_get s.nodes at ≡ Some n → Stands s.lines at n
  pub holds : L.faithful → IsHeld L s

-- the register has each line, and the own address of each caller is that of its line
pub record IsAddressed (s : Network) : Type 0 where
  pub registered : length s.register.lines ≡ length s.lines
  pub own : HaveOwnAddresses s.register

-- a network, with any number of switches or without one
pub record IsAny (L : LineService) (s : Network) : Type 0 where
  pub network : IsSwitched L s
  pub addressed : IsAddressed s
