-- What a network promises, with any number of switches or without one: of its calls, and of what is inside.
use Rattle.std.specs.Prelude.{◌≡◌, ℕ, List, length, map, slice_get, Some}
use Rattle.link_timers.specs.declared.role.Role.{Role}
use Rattle.call_records.specs.Book.{side_of}
use Rattle.call_records.specs.Register.{book_at}
use Rattle.record_laws.specs.Registers.RegisterPromise.{HasRecords}
use Rattle.record_laws.specs.CallPaths.OwnAddresses.{HaveOwnAddresses}
use Rattle.user_nodes.specs.Node.{NodeState, Pad, Host}
use Rattle.net_events.specs.Network.{NetNode, User, Switching, NetLine, Network, place_at}
pub use Rattle.network_laws.specs.LinesPromise.{its_slot, EndHolds, PlacedHolds, PadsSend}
use Rattle.node_laws.specs.LineRecords.Histories.{LineHistory}
use Rattle.network_laws.specs.CallsPromise.{NodeKind, PadNode, HostNode, SwitchNode, CallsPromise}
use Rattle.network_laws.specs.Switched.Plans.{goes_on_at}
pub use Rattle.network_laws.specs.Switched.Histories.{HasUserAt, HistoriesHold}

-- ---- of calls

abbrev pub user_kind : NodeState → NodeKind
user_kind (Pad p) = PadNode
user_kind (Host e) = HostNode

-- a switch sends a call on by the longest prefix of the called address among its routes
abbrev pub kind_of : NetNode → NodeKind
kind_of (User n) = user_kind n.node
kind_of (Switching n) = SwitchNode (goes_on_at n)

-- of the calls of a network
abbrev pub PromisesCalls : Network → Type 0
PromisesCalls s = CallsPromise (map kind_of s.nodes) s.register

-- ---- inside

pub record InnerPromise (s : Network) : Type 0 where
  -- the register has each line, with the nodes at its ends
  pub registered : length s.register.lines ≡ length s.lines
  pub nodes : (line : ℕ) (l : NetLine) (role : Role) → slice_get s.lines line ≡ Some l
      → (side_of role (book_at line s.register)).node ≡ place_at role l
  -- a node is at each end of each line: without a switch, one with users
  pub there : (line : ℕ) (l : NetLine) (role : Role) → slice_get s.lines line ≡ Some l
      → (n : NetNode) × (slice_get s.nodes (place_at role l) ≡ Some n)
  -- each present record is open and of the node at its end, at no other channel; each open record is present
  pub records : HasRecords s.register
  -- the ends of lines at which nodes with users stand
  pub ends : (line : ℕ) (l : NetLine) (role : Role) → slice_get s.lines line ≡ Some l → HasUserAt s l role
      → EndHolds s line l role
  -- at these ends, on lines between users and on lines to a switch, each call in data transfer that was placed is the
  -- last one placed there and is in a pair
  pub placed : (line : ℕ) (l : NetLine) (role : Role) → slice_get s.lines line ≡ Some l → HasUserAt s l role
      → PlacedHolds s line l role
  -- one course of events leads to each PAD. What its terminals sent on a call is, block for block with its end, what
  -- the editing rules make of the keys and idle times; what else it sent are the answers and indications of break, and
  -- its interrupts, for which the messages, breaks and commands of this course ask, one each and in order
  pub pads : PadsSend s
  -- for each line there is one history of its packet layers, which leads to those of its nodes with users; what the
  -- records count, open or closed, is what it says, and the pairs are the calls that users accepted in it, one for each
  pub histories : List LineHistory
  pub kept : HistoriesHold s histories
  -- each call placed last on a channel, and the caller of each present one, has the address of its line as its own
  pub own : HaveOwnAddresses s.register

pub record NetworkPromise (s : Network) : Type 0 where
  pub calls : PromisesCalls s
  pub inner : InnerPromise s
