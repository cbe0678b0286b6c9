-- The register of a network with switches and the whole register: when the one has what the other has of the ends with
-- users.
use Rattle.std.specs.Prelude.{◌≡◌, ℕ, ◌<◌, Bool, true, false, if◌then◌else◌, List, [], length, map, slice_get}
use Rattle.std.specs.Prelude.{Option, Some, None}
use Rattle.link_timers.specs.declared.role.Role.{Role}
use Rattle.link_timers.specs.Role.{other_of}
use Rattle.call_records.specs.Records.{RecordValue, HopValue, PairValue}
use Rattle.call_records.specs.Book.{Slot, Side, nth_slot, side_of}
use Rattle.call_records.specs.Register.{book_at}
use Rattle.record_laws.specs.Registers.Seen.{positions, IsNumbered}
use Rattle.record_laws.specs.CallPaths.World.{Origin, placing, Join, World, Plan, calling_on}
use Rattle.record_laws.specs.CallPaths.PathPromise.{address_at}

-- ---- records

-- 1 for a record of a user's end, 0 for one of a switch's
abbrev pub kind : Plan → Origin → ℕ
kind plan o = if plan.has_user o.line o.role then 1 else 0

-- the numbers that the register's records have in the whole register
abbrev pub numbers : Plan → List Origin → List ℕ
numbers plan origins = positions 1 (map (kind plan) origins)

-- the record of this number came in from that one, and the two are of the ends of one line
pub record CameFrom (origins : List Origin) (callee caller : ℕ) : Type 0 where
  pub origin : Origin
  pub there : slice_get origins callee ≡ Some origin
  pub came : origin.caller ≡ Some caller

pub record IsJoined (joins : List Join) (came_in placed : ℕ) : Type 0 where
  pub place : ℕ
  pub there : slice_get joins place ≡ Some (record { came_in = came_in; placed = placed })

-- from the record of the end that placed a call, over any number of joins, to one of the records with which it was
-- placed onward
pub data Way : List Origin → List Join → (first last : ℕ) → Type 0 where
  here : {origins : List Origin} {joins : List Join} {x : ℕ} → Way origins joins x x
  onward : {origins : List Origin} {joins : List Join} {x y : ℕ} (a b : ℕ) → Way origins joins x y
      → CameFrom origins a y → IsJoined joins a b → Way origins joins x b

-- ---- a number of the register stands for the one at the beginning of the way to one of the whole register

pub record Begins (plan : Plan) (origins : List Origin) (joins : List Join) (n last : ℕ) : Type 0 where
  pub first : ℕ
  pub numbered : slice_get (numbers plan origins) n ≡ Some first
  pub way : Way origins joins first last

abbrev pub BeginsIf : Plan → List Origin → List Join → (seen whole : Option ℕ) → Type 0
BeginsIf plan origins joins None None = Unit {0}
BeginsIf plan origins joins (Some n) (Some last) = Begins plan origins joins n last
BeginsIf plan origins joins _ _ = ⊥

-- ---- a record: with its own number in the register, and that of the beginning of the way to its caller

-- where the call was placed at an end with an address, that is the own address
abbrev pub own_on : (placed_here : Bool) → (caller : Option ℕ) → (address : List ℕ) → (given : Option (List ℕ))
    → Option (List ℕ)
own_on true None address given = calling_on address given
own_on _ _ address given = given

abbrev pub own_of : Plan → Origin → (given : Option (List ℕ)) → Option (List ℕ)
own_of plan o given = own_on o.placed_here o.caller (address_at plan o.line o.role) given

-- a record of the whole register, as the register has it, which alone has paths
abbrev pub shown : Plan → Origin → (number : ℕ) → (caller : Option ℕ) → (path : List HopValue) → RecordValue
    → RecordValue
shown plan o number caller path r = record r {
  number = number;
  own = own_of plan o r.own;
  caller = caller;
  path = path;
}

pub record RecordIsShown (plan : Plan) (origins : List Origin) (joins : List Join) (seen whole : List RecordValue)
    (n m : ℕ) : Type 0 where
  pub origin : Origin
  pub origin_there : slice_get origins m ≡ Some origin
  pub value : RecordValue
  pub whole_there : slice_get whole m ≡ Some value
  pub caller : Option ℕ
  pub begins : BeginsIf plan origins joins caller value.caller
  pub path : List HopValue
  pub seen_there : slice_get seen n ≡ Some (shown plan origin n caller path value)

-- ---- a channel: at a switch's end the register has the holder alone

abbrev pub PresentIsSeen : Bool → (numbers : List ℕ) → (seen whole : Option ℕ) → Type 0
PresentIsSeen true numbers seen whole = IsNumbered numbers seen whole
PresentIsSeen false numbers seen whole = seen ≡ None

abbrev pub CallerIsSeen : Bool → Plan → List Origin → List Join → (seen whole : Option ℕ) → Type 0
CallerIsSeen true plan origins joins seen whole = BeginsIf plan origins joins seen whole
CallerIsSeen false plan origins joins seen whole = seen ≡ None

-- the record of this number was made at this end, with this caller
pub record IsMadeAt (origins : List Origin) (line : ℕ) (role : Role) (caller : Option ℕ) (m : ℕ) : Type 0 where
  pub placed_here : Bool
  pub there : slice_get origins m
      ≡ Some (record { line = line; role = role; placed_here = placed_here; caller = caller })

pub record SlotIsSeen (plan : Plan) (origins : List Origin) (joins : List Join) (line : ℕ) (role : Role)
    (seen whole : Slot) : Type 0 where
  pub present : PresentIsSeen (plan.has_user line role) (numbers plan origins) seen.present whole.present
  pub caller : CallerIsSeen (plan.has_user line role) plan origins joins seen.caller whole.caller
  pub placed : BeginsIf plan origins joins seen.placed whole.placed
  pub present_origin : (m : ℕ) → whole.present ≡ Some m → IsMadeAt origins line role whole.caller m
  pub placed_origin : (m : ℕ) → whole.placed ≡ Some m → slice_get origins m ≡ Some (placing line role)

pub record SideIsSeen (plan : Plan) (origins : List Origin) (joins : List Join) (line : ℕ) (role : Role)
    (seen whole : Side) : Type 0 where
  pub seen_node : seen.node ≡ plan.node line role
  pub whole_node : whole.node ≡ plan.node line role
  pub seen_address : seen.address ≡ address_at plan line role
  pub whole_address : whole.address ≡ []
  pub channels : length seen.slots ≡ length whole.slots
  pub slot : (channel : ℕ)
      → SlotIsSeen plan origins joins line role (nth_slot seen.slots channel) (nth_slot whole.slots channel)

-- ---- records and pairs

-- the record of a switch's end that is joined came in there, and the other one was placed there, not back on a line on
-- which the call came from a switch
pub record JoinIsSeen (plan : Plan) (origins : List Origin) (a b : ℕ) : Type 0 where
  pub from : Origin
  pub from_there : slice_get origins a ≡ Some from
  pub from_switch : plan.has_user from.line from.role ≡ false
  pub to : Origin
  pub to_there : slice_get origins b ≡ Some to
  pub to_switch : plan.has_user to.line to.role ≡ false
  pub placed : to.caller ≡ None
  pub one_switch : plan.node from.line from.role ≡ plan.node to.line to.role
  pub not_back : plan.has_user from.line (other_of from.role) ≡ false → from.line ≡ to.line → ⊥
  pub order : a < b

pub record RecordsAreSeen (plan : Plan) (origins : List Origin) (joins : List Join) (seen whole : List RecordValue)
    : Type 0 where
  pub count : length origins ≡ length whole
  pub seen_count : length seen ≡ length (numbers plan origins)
  pub records : (n m : ℕ) → slice_get (numbers plan origins) n ≡ Some m
      → RecordIsShown plan origins joins seen whole n m
  pub numbered : (n : ℕ) (r : RecordValue) → slice_get seen n ≡ Some r → r.number ≡ n
  pub nodes : (m : ℕ) (o : Origin) (r : RecordValue) → slice_get origins m ≡ Some o → slice_get whole m ≡ Some r
      → r.node ≡ plan.node o.line o.role
  pub named : (m : ℕ) (o : Origin) (r : RecordValue) → slice_get origins m ≡ Some o → slice_get whole m ≡ Some r
      → r.caller ≡ o.caller
  pub callers : (m x : ℕ) (o : Origin) → slice_get origins m ≡ Some o → o.caller ≡ Some x
      → slice_get origins x ≡ Some (placing o.line (other_of o.role))
  pub joined : (a b : ℕ) → IsJoined joins a b → JoinIsSeen plan origins a b
  pub joined_once : (a b c : ℕ) → IsJoined joins a b → IsJoined joins a c → b ≡ c
  pub placed_once : (a b c : ℕ) → IsJoined joins a c → IsJoined joins b c → a ≡ b

-- a pair of the register has the callee of the whole register's, and the caller at the beginning of its way
pub record PairIsSeen (plan : Plan) (origins : List Origin) (joins : List Join) (seen whole : List PairValue)
    (q p : ℕ) : Type 0 where
  pub seen_pair : PairValue
  pub whole_pair : PairValue
  pub seen_there : slice_get seen q ≡ Some seen_pair
  pub whole_there : slice_get whole p ≡ Some whole_pair
  pub callee : slice_get (numbers plan origins) seen_pair.callee ≡ Some whole_pair.callee
  pub caller : Begins plan origins joins seen_pair.caller whole_pair.caller

-- each pair of the whole register is of a call that came in, and says whose the callee's record is
pub record PairCame (plan : Plan) (origins : List Origin) (kinds : List ℕ) (p : ℕ) (pair : PairValue) : Type 0 where
  pub origin : Origin
  pub there : slice_get origins pair.callee ≡ Some origin
  pub came : origin.caller ≡ Some pair.caller
  pub of_kind : slice_get kinds p ≡ Some (kind plan origin)

pub record PairsAreSeen (plan : Plan) (origins : List Origin) (joins : List Join) (kinds : List ℕ)
    (seen whole : List PairValue) : Type 0 where
  pub count : length kinds ≡ length whole
  pub seen_count : length seen ≡ length (positions 1 kinds)
  pub pairs : (q p : ℕ) → slice_get (positions 1 kinds) q ≡ Some p → PairIsSeen plan origins joins seen whole q p
  pub came : (p : ℕ) (pair : PairValue) → slice_get whole p ≡ Some pair → PairCame plan origins kinds p pair

-- ---- all

pub record Seen (plan : Plan) (w : World) : Type 0 where
  pub kinds : List ℕ
  pub records : RecordsAreSeen plan w.origins w.joins w.register.records w.whole.records
  pub pairs : PairsAreSeen plan w.origins w.joins kinds w.register.pairs w.whole.pairs
  pub lines : length w.register.lines ≡ length w.whole.lines
  pub sides : (line : ℕ) (role : Role) → line < length w.whole.lines
      → SideIsSeen plan w.origins w.joins line role (side_of role (book_at line w.register))
      (side_of role (book_at line w.whole))
