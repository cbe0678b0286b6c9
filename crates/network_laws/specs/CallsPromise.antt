-- What a network promises of its calls, in words of records, places and addresses alone.
use Rattle.std.specs.Prelude.{◌≡◌, ◌≤◌, ℕ, Bool, true, false, List, [], length, slice_get, Option, Some, None}
use Rattle.link_timers.specs.declared.role.Role.{Role}
use Rattle.link_timers.specs.declared.role.Role.TheVariants.{Dte, Dce}
use Rattle.call_records.specs.Records.{RecordValue, PairValue}
use Rattle.call_records.specs.Book.{address_of}
use Rattle.call_records.specs.Register.{Register, LineEnds}
use Rattle.record_laws.specs.Words.{HasTyped}
use Rattle.record_laws.specs.CallPaths.PathPromise.{Plan, address_at, PathsHold}

-- a node is a PAD, a host, or a switch, which sends on a call to an address on a line, or on none
pub data NodeKind : Type 0 where
  PadNode : NodeKind
  HostNode : NodeKind
  SwitchNode : (onward : List ℕ → Option ℕ) → NodeKind

abbrev pub is_user : NodeKind → Bool
is_user (SwitchNode onward) = false
is_user kind = true

-- the plan of these nodes and of the register's lines: which node is at each end of each line, whether it has users,
-- the address of each line, and the lines on which each switch sends calls on
pub record IsPlanFor (nodes : List NodeKind) (g : Register) (plan : Plan) : Type 0 where
  pub line : (line : ℕ) (ends : LineEnds) → slice_get g.lines line ≡ Some ends
      → (plan.node line Dte ≡ ends.dte.node) × (plan.node line Dce ≡ ends.dce.node)
      × (plan.address line ≡ ends.dte.address)
  -- no node is at the ends of a line that is not there: its places are beyond those of the nodes
  pub nowhere : (line : ℕ) (role : Role) → length g.lines ≤ line → length nodes ≤ plan.node line role
  pub user : (line : ℕ) (role : Role) (kind : NodeKind) → slice_get nodes (plan.node line role) ≡ Some kind
      → plan.has_user line role ≡ is_user kind
  pub route : (place : ℕ) (onward : List ℕ → Option ℕ) (called : List ℕ) → slice_get nodes place ≡ Some (SwitchNode onward)
      → plan.route place (address_of called) ≡ onward called

abbrev pub HasNoSwitch : List NodeKind → Type 0
HasNoSwitch nodes = (place : ℕ) (kind : NodeKind) → slice_get nodes place ≡ Some kind → is_user kind ≡ true

pub record CallsPromise (nodes : List NodeKind) (g : Register) : Type 0 where
  pub plan : Plan
  pub plan_is : IsPlanFor nodes g plan
  -- for each pair, over one line or through any number of switches, what one end took matches what the other one sent,
  -- both ways, what is confirmed was taken, and the pair is right; no record is in two pairs, and each that took anything
  -- is in one
  pub paths : PathsHold plan g
  -- each record is of a PAD or a host
  pub of_users : (i : ℕ) (r : RecordValue) → slice_get g.records i ≡ Some r
      → (kind : NodeKind) × (slice_get nodes r.node ≡ Some kind) × (is_user kind ≡ true)
  -- what a PAD's terminal sent on a call is, block for block with its end, what the editing rules make of its keys and
  -- idle times
  pub typed : (i : ℕ) (r : RecordValue) → slice_get g.records i ≡ Some r → slice_get nodes r.node ≡ Some PadNode
      → HasTyped r
  -- the own address of each caller is that of its line; on a line between two nodes with users that is none, and so is
  -- the far address of the callee
  pub own : (i : ℕ) (pair : PairValue) (caller : RecordValue) → slice_get g.pairs i ≡ Some pair
      → slice_get g.records pair.caller ≡ Some caller → (line : ℕ) × (role : Role) × (caller.node ≡ plan.node line role)
      × (caller.own ≡ address_of (address_at plan line role))
  pub far : (i line : ℕ) (role : Role) (pair : PairValue) (callee : RecordValue) → slice_get g.pairs i ≡ Some pair
      → slice_get g.records pair.callee ≡ Some callee → callee.node ≡ plan.node line role
      → plan.has_user line Dce ≡ true → callee.far ≡ None
  -- without a switch no call has a hop, so that its records are those of the two ends of one line
  pub alone : HasNoSwitch nodes → (i : ℕ) (pair : PairValue) (caller : RecordValue) → slice_get g.pairs i ≡ Some pair
      → slice_get g.records pair.caller ≡ Some caller → caller.path ≡ []
