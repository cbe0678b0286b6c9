-- The register of a network with switches, beside one that nobody stores. The whole register has the records of all
-- ends of lines, a switch's among them; the register has those of the ends with users, PADs and hosts. The own address
-- of a caller is that of its line in the register, and in the whole one the address that it gave.
use Rattle.std.specs.Prelude.{◌≡◌, ℕ, suc, ◌<◌, ◌⊎◌, Bool, true, false, List, [], ◌∷◌, ◌++◌, length, slice_get}
use Rattle.std.specs.Prelude.{Option, Some, None, map}
use Rattle.link_timers.specs.declared.role.Role.{Role}
use Rattle.link_timers.specs.declared.role.Role.TheVariants.{Dte, Dce}
use Rattle.link_timers.specs.Role.{other_of}
use Rattle.data_transfer.specs.Packets.{CallParts, Note}
use Rattle.data_transfer.specs.Packets.Note.{Incoming}
use Rattle.call_records.specs.Book.{Book, slot_at, places_from, told}
use Rattle.call_records.specs.Writes.{Write, written_by}
use Rattle.call_records.specs.Writes.Write.{Placed, Told}
pub use Rattle.call_records.specs.Register.{ChannelEnd}
pub use Rattle.record_laws.specs.CallPaths.PathPromise.{Plan, calling_on}
use Rattle.call_records.specs.Register.{Register, LinePlan, free_ends, book_at, written_at, all_written_at, holder_at}
use Rattle.call_records.specs.Register.{handed_on}

-- ---- where a record comes from

-- the end at which it was made, whether the call was placed there, and, where it came in there, the record of the end
-- that placed it
pub record Origin : Type 0 where
  pub line : ℕ
  pub role : Role
  pub placed_here : Bool
  pub caller : Option ℕ

abbrev pub placing : (line : ℕ) → Role → Origin
placing line role = record { line = line; role = role; placed_here = true; caller = None }

abbrev pub coming : (line : ℕ) → Role → (caller : Option ℕ) → Origin
coming line role caller = record { line = line; role = role; placed_here = false; caller = caller }

-- of the records that a note adds to a book
abbrev pub noted : (line : ℕ) → Role → Note → Book → List Origin → List Origin
noted line role (Incoming channel parts) b origins =
    origins ++ coming line role (slot_at (other_of role) channel b).placed ∷ []
noted line role note b origins = origins

abbrev pub all_noted : (line : ℕ) → Role → List Note → Book → List Origin → List Origin
all_noted line role [] b origins = origins
all_noted line role (note ∷ notes) b origins =
    all_noted line role notes (told role note b) (noted line role note b origins)

abbrev pub with_placed : (line : ℕ) → Role → Option ℕ → List Origin → List Origin
with_placed line role None origins = origins
with_placed line role (Some channel) origins = origins ++ placing line role ∷ []

-- of those that a write adds, and a list of writes
abbrev pub traced : (line : ℕ) → Role → Write → Book → List Origin → List Origin
traced line role (Told notes) b origins = all_noted line role notes b origins
traced line role (Placed channel parts) b origins = with_placed line role channel origins
traced line role write b origins = origins

abbrev pub all_traced : (line : ℕ) → Role → List Write → Book → List Origin → List Origin
all_traced line role [] b origins = origins
all_traced line role (write ∷ writes) b origins =
    all_traced line role writes (written_by role write b) (traced line role write b origins)

-- ---- the network

-- a switch joined the call that came in with the one that it then placed: the numbers of its two records
pub record Join : Type 0 where
  pub came_in : ℕ
  pub placed : ℕ

pub record World : Type 0 where
  pub register : Register
  pub whole : Register
  pub origins : List Origin
  pub joins : List Join

-- a line has an address only where a user is at the DTE's end and a switch at the DCE's
abbrev pub AreAddressed : Plan → Type 0
AreAddressed plan =
    (line : ℕ) → (plan.has_user line Dte ≡ false) ⊎ (plan.has_user line Dce ≡ true) → plan.address line ≡ []

-- ---- what happens

-- writes at an end with a user, and at one of a switch; a call that came in at a switch is placed onward, and joined
pub data Event : Type 0 where
  Writes : (line : ℕ) → Role → List Write → Event
  SwitchWrites : (line : ℕ) → Role → List Write → Event
  Joins : (from to : ChannelEnd) → CallParts → Event

-- the same channel at the other end of its line
abbrev pub far_end : ChannelEnd → ChannelEnd
far_end end = record end { role = other_of end.role }

-- the holder for the channel to which a call goes on: that of the far end of the channel on which it came
abbrev pub holder_of : ChannelEnd → Register → Option ℕ
holder_of from g = holder_at (far_end from) g

abbrev pub with_join : Option ℕ → (placed : ℕ) → List Join → List Join
with_join None placed joins = joins
with_join (Some came_in) placed joins = joins ++ record { came_in = came_in; placed = placed } ∷ []

abbrev pub after_event : Event → World → World
after_event (Writes line role writes) w = record w {
  register = all_written_at line role writes w.register;
  whole = all_written_at line role writes w.whole;
  origins = all_traced line role writes (book_at line w.whole) w.origins;
}
after_event (SwitchWrites line role writes) w = record w {
  whole = all_written_at line role writes w.whole;
  origins = all_traced line role writes (book_at line w.whole) w.origins;
}
after_event (Joins from to parts) w = record {
  register = handed_on (far_end from) to w.register;
  whole = written_at to.line (places_from to.role to.channel parts.calling parts.called) w.whole;
  origins = w.origins ++ placing to.line to.role ∷ [];
  joins =
      with_join (slot_at from.role from.channel (book_at from.line w.whole)).present (length w.whole.records) w.joins;
}

abbrev pub after_all : List Event → World → World
after_all [] w = w
after_all (event ∷ events) w = after_all events (after_event event w)

-- ---- what may happen

abbrev pub PlacesNone : Write → Type 0
PlacesNone (Placed (Some channel) parts) = ⊥
PlacesNone write = Unit {0}

abbrev pub AllPlaceNone : List Write → Type 0
AllPlaceNone [] = Unit {0}
AllPlaceNone (write ∷ writes) = PlacesNone write × AllPlaceNone writes

-- a switch writes at its own end; it places a call where it joins one
pub record IsSwitchEnd (plan : Plan) (line : ℕ) (role : Role) (w : World) : Type 0 where
  pub there : line < length w.whole.lines
  pub switch : plan.has_user line role ≡ false

-- a switch joins a call as it comes in: the end that placed it placed none since, no join has it yet, and no other
-- record came in from the same one; a call that came from a switch does not go back on the line on which it came
pub record MayJoin (plan : Plan) (from to : ChannelEnd) (w : World) : Type 0 where
  pub from_end : IsSwitchEnd plan from.line from.role w
  pub to_end : IsSwitchEnd plan to.line to.role w
  pub one_switch : plan.node from.line from.role ≡ plan.node to.line to.role
  pub came_in : ℕ
  pub caller : ℕ
  pub present : (slot_at from.role from.channel (book_at from.line w.whole)).present ≡ Some came_in
  pub came : (slot_at from.role from.channel (book_at from.line w.whole)).caller ≡ Some caller
  pub last : (slot_at (other_of from.role) from.channel (book_at from.line w.whole)).placed ≡ Some caller
  pub first : (k : ℕ) (j : Join) → slice_get w.joins k ≡ Some j → j.came_in ≡ came_in → ⊥
  pub alone : (a : ℕ) (o : Origin) → slice_get w.origins a ≡ Some o → o.caller ≡ Some caller → a ≡ came_in
  pub not_back : plan.has_user from.line (other_of from.role) ≡ false → from.line ≡ to.line → ⊥

abbrev pub MayHappen : Plan → Event → World → Type 0
MayHappen plan (Writes line role writes) w = (line < length w.whole.lines) × (plan.has_user line role ≡ true)
MayHappen plan (SwitchWrites line role writes) w = IsSwitchEnd plan line role w × AllPlaceNone writes
MayHappen plan (Joins from to parts) w = MayJoin plan from to w

abbrev pub MayAll : Plan → List Event → World → Type 0
MayAll plan [] w = Unit {0}
MayAll plan (event ∷ events) w = MayHappen plan event w × MayAll plan events (after_event event w)

-- ---- the making

-- free lines; a call that stands on one is placed, comes in and is accepted as any other
abbrev pub free_register : List LinePlan → Register
free_register plans = record { records = []; pairs = []; lines = map free_ends plans }

-- the lines' own books have no addresses, and so has the whole register none
abbrev pub without_address : LinePlan → LinePlan
without_address plan = record plan { address = [] }

abbrev pub made_world : List LinePlan → World
made_world plans = record {
  register = free_register plans;
  whole = free_register (map without_address plans);
  origins = [];
  joins = [];
}

-- the lines are between the nodes of the plan, with its addresses
abbrev pub AreBetween : Plan → (first : ℕ) → List LinePlan → Type 0
AreBetween plan first [] = Unit {0}
AreBetween plan first (line ∷ lines) =
    (line.dte_node ≡ plan.node first Dte) × ((line.dce_node ≡ plan.node first Dce)
    × ((line.address ≡ plan.address first) × AreBetween plan (suc first) lines))
