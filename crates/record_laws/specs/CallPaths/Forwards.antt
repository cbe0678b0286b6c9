-- The addresses with which a switch places calls onward. They hold of the records of its joins for ever, since no write
-- changes the node or the addresses of a record.
use Rattle.std.specs.Prelude.{◌≡◌, ℕ, false, ◌⊎◌, List, [], ◌∷◌, slice_get, Some}
use Rattle.epochs.specs.Confirmed.{Confirms}
use Rattle.epochs.specs.ConfirmedLaws.{AreEmpty}
use Rattle.data_transfer.specs.Packets.{CallParts}
use Rattle.call_records.specs.Records.{RecordValue}
use Rattle.call_records.specs.Book.{slot_at, address_of}
use Rattle.call_records.specs.Register.{LinePlan, book_at}
use Rattle.record_laws.specs.Words.{sent_by, taken_by}
use Rattle.record_laws.specs.CallPaths.World.{Origin, World, Plan, ChannelEnd, Event, after_event, MayHappen, made_world}
use Rattle.record_laws.specs.CallPaths.World.{calling_on}
use Rattle.record_laws.specs.CallPaths.World.Event.{Joins}
use Rattle.record_laws.specs.CallPaths.Seen.{IsJoined, Seen}
use Rattle.record_laws.specs.CallPaths.Parts.{JoinsHold}

-- ---- where a switch joins a call: the parts with which it goes on

-- the called address is that of the call; the calling one is that of the line that it came on, or, where this line has
-- none, that of the call; and it goes on on the line of the route of the called address
pub record IsForwarded (plan : Plan) (from to : ChannelEnd) (parts : CallParts) (came : RecordValue) : Type 0 where
  pub called : address_of parts.called ≡ came.own
  pub calling : address_of parts.calling ≡ calling_on (plan.address from.line) came.far
  pub routed : plan.route (plan.node to.line to.role) (address_of parts.called) ≡ Some to.line

abbrev pub Forwards : Plan → Event → World → Type 0
Forwards plan (Joins from to parts) w = (n : ℕ) (came : RecordValue)
    → (slot_at from.role from.channel (book_at from.line w.whole)).present ≡ Some n
    → slice_get w.whole.records n ≡ Some came → IsForwarded plan from to parts came
Forwards plan event w = Unit {0}

abbrev pub AllForward : Plan → List Event → World → Type 0
AllForward plan [] w = Unit {0}
AllForward plan (event ∷ events) w = Forwards plan event w × AllForward plan events (after_event event w)

-- ---- the two records of a join

pub record IsHandedOn (plan : Plan) (w : World) (a b : ℕ) : Type 0 where
  pub from : RecordValue
  pub to : RecordValue
  pub from_there : slice_get w.whole.records a ≡ Some from
  pub to_there : slice_get w.whole.records b ≡ Some to
  pub from_origin : Origin
  pub to_origin : Origin
  pub from_came : slice_get w.origins a ≡ Some from_origin
  pub to_placed : slice_get w.origins b ≡ Some to_origin
  pub called : to.far ≡ from.own
  pub calling : to.own ≡ calling_on (plan.address from_origin.line) from.far
  pub routed : plan.route to.node to.far ≡ Some to_origin.line

abbrev pub AreHandedOn : Plan → World → Type 0
AreHandedOn plan w = (a b : ℕ) → IsJoined w.joins a b → IsHandedOn plan w a b

-- what was sent on the one leg comes of what was taken on the other one, both ways
pub record IsRelayed (w : World) (a b : ℕ) : Type 0 where
  pub from : RecordValue
  pub to : RecordValue
  pub from_there : slice_get w.whole.records a ≡ Some from
  pub to_there : slice_get w.whole.records b ≡ Some to
  pub onward : Confirms (sent_by to) (taken_by from)
  pub backward : Confirms (sent_by from) (taken_by to)

-- ---- laws

abbrev pub MadeForwardLaw : Type 0
MadeForwardLaw = (plan : Plan) (lines : List LinePlan) → AreHandedOn plan (made_world lines)

-- if they are right where a call is joined, they stay so, whatever is written
abbrev pub ForwardLaw : Type 0
ForwardLaw = (plan : Plan) (event : Event) (w : World) → MayHappen plan event w → Forwards plan event w → Seen plan w
    → AreHandedOn plan w → AreHandedOn plan (after_event event w)

-- so of a switch the relay of its joins alone has to be shown, and that it sent nothing where it did not join
abbrev pub RelayedLaw : Type 0
RelayedLaw = (plan : Plan) (w : World) → AreHandedOn plan w → ((a b : ℕ) → IsJoined w.joins a b → IsRelayed w a b)
    → ((a x : ℕ) (o : Origin) (r : RecordValue) → slice_get w.origins a ≡ Some o → o.caller ≡ Some x
    → plan.has_user o.line o.role ≡ false → slice_get w.whole.records a ≡ Some r
    → AreEmpty (sent_by r) ⊎ ((b : ℕ) × IsJoined w.joins a b))
    → JoinsHold plan w
