-- The plan of a network, in the terms of the laws of calls through switches: which node is at each end of each line,
-- whether it has users, the address of each line, and the lines of the routes of each switch.
use Rattle.std.specs.Prelude.{◌≡◌, ◌≤◌, ℕ, Bool, true, false, List, length, slice_get, Option, Some, option_and_then}
use Rattle.link_timers.specs.declared.role.Role.{Role}
use Rattle.address_routes.specs.Routes.{line_for}
use Rattle.call_records.specs.Book.{address_of}
use Rattle.call_records.specs.Register.{book_at}
use Rattle.record_laws.specs.CallPaths.World.{Plan}
use Rattle.net_events.specs.Network.{PlacedSwitch, NetNode, User, Switching, NetLine, Network, place_at}

abbrev pub has_users : NetNode → Bool
has_users (User n) = true
has_users (Switching n) = false

-- the line of the network on which a switch sends on a call to an address, or none: that of the longest prefix among
-- its routes
abbrev pub goes_on_at : PlacedSwitch → (called : List ℕ) → Option ℕ
goes_on_at n called = option_and_then (λ own. slice_get n.lines own) (line_for n.switch.routes called)

pub record IsPlanOf (s : Network) (plan : Plan) : Type 0 where
  pub node : (line : ℕ) (l : NetLine) (role : Role) → slice_get s.lines line ≡ Some l
      → plan.node line role ≡ place_at role l
  -- no node is at the ends of a line that is not there: its places are beyond those of the nodes
  pub nowhere : (line : ℕ) (role : Role) → length s.lines ≤ line → length s.nodes ≤ plan.node line role
  pub user : (line : ℕ) (l : NetLine) (role : Role) (n : NetNode) → slice_get s.lines line ≡ Some l
      → slice_get s.nodes (place_at role l) ≡ Some n → plan.has_user line role ≡ has_users n
  pub address : (line : ℕ) (l : NetLine) → slice_get s.lines line ≡ Some l
      → plan.address line ≡ (book_at line s.register).dte.address
  pub route : (place : ℕ) (n : PlacedSwitch) (called : List ℕ) → slice_get s.nodes place ≡ Some (Switching n)
      → plan.route place (address_of called) ≡ goes_on_at n called
