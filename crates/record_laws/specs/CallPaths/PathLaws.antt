-- The laws of the register of a network with switches.
use Rattle.std.specs.Prelude.{◌≡◌, ℕ, ◌<◌, List, length, true, slice_get, Some, is_some}
use Rattle.link_timers.specs.declared.role.Role.{Role}
use Rattle.call_records.specs.Records.{RecordValue}
use Rattle.call_records.specs.Book.{slot_at}
use Rattle.call_records.specs.Register.{LinePlan, book_at}
use Rattle.record_laws.specs.Books.Headline.{IsPaired}
use Rattle.record_laws.specs.Registers.RegisterPromise.{HasRecords}
use Rattle.record_laws.specs.CallPaths.World.{World, Plan, Event, after_event, after_all, MayHappen, MayAll, made_world}
use Rattle.record_laws.specs.CallPaths.World.{AreBetween, AreAddressed}
use Rattle.record_laws.specs.CallPaths.Seen.{numbers, RecordIsShown, Seen}
use Rattle.record_laws.specs.CallPaths.Tree.{IsTree}
use Rattle.record_laws.specs.CallPaths.Paths.{ArePaths}
use Rattle.record_laws.specs.CallPaths.PathPromise.{PathsHold}
use Rattle.record_laws.specs.CallPaths.Parts.{CallsHold, JoinsHold}

-- ---- the making, and whatever happens

abbrev pub MadeLaw : Type 0
MadeLaw = (plan : Plan) (lines : List LinePlan) → AreBetween plan 0 lines → Seen plan (made_world lines)

abbrev pub EventLaw : Type 0
EventLaw =
    (plan : Plan) (event : Event) (w : World) → MayHappen plan event w → Seen plan w → Seen plan (after_event event w)

-- ---- what the register then is

-- where the lines and the joins hold, so does the register, with the path of each record
abbrev pub PromiseLaw : Type 0
PromiseLaw = (plan : Plan) (w : World) → AreAddressed plan → Seen plan w → ArePaths plan w → CallsHold w
    → JoinsHold plan w → PathsHold plan w.register

-- so from the making on, in a tree of switches
abbrev pub PathLaw : Type 0
PathLaw = (plan : Plan) (switches : List ℕ) (lines : List LinePlan) (events : List Event) → IsTree plan switches
    → AreAddressed plan → AreBetween plan 0 lines → MayAll plan events (made_world lines)
    → CallsHold (after_all events (made_world lines)) → JoinsHold plan (after_all events (made_world lines))
    → PathsHold plan (after_all events (made_world lines)).register

-- without a switch the register is the whole one as it is made
abbrev pub MadeAlikeLaw : Type 0
MadeAlikeLaw = (plan : Plan) (lines : List LinePlan) → ((line : ℕ) (role : Role) → plan.has_user line role ≡ true)
    → AreAddressed plan → AreBetween plan 0 lines → (made_world lines).register ≡ (made_world lines).whole

-- and stays so
abbrev pub WithoutSwitchLaw : Type 0
WithoutSwitchLaw =
    (plan : Plan) (events : List Event) (w : World) → ((line : ℕ) (role : Role) → plan.has_user line role ≡ true)
    → w.register ≡ w.whole → MayAll plan events w → (after_all events w).register ≡ (after_all events w).whole

-- ---- records and channels

-- each record of the register is one of the whole register, but for its number, its caller's and its own address
abbrev pub OwnedLaw : Type 0
OwnedLaw = (plan : Plan) (w : World) (n : ℕ) (r : RecordValue) → Seen plan w
    → slice_get w.register.records n ≡ Some r
    → (m : ℕ) × (slice_get (numbers plan w.origins) n ≡ Some m)
    × RecordIsShown plan w.origins w.joins w.register.records w.whole.records n m

-- where the whole register has open records where one is present and there alone, so has the register
abbrev pub RecordsLaw : Type 0
RecordsLaw = (plan : Plan) (w : World) → Seen plan w → HasRecords w.whole → HasRecords w.register

-- at a user's end, a channel has a present record exactly where it has one in the whole register, and one that came in
-- has one of the end that placed the call; where these two are a pair there, they are so in the register
abbrev pub PresentLaw : Type 0
PresentLaw = (plan : Plan) (w : World) (line : ℕ) (role : Role) (channel : ℕ) → Seen plan w
    → line < length w.whole.lines → plan.has_user line role ≡ true
    → is_some (slot_at role channel (book_at line w.register)).present
    ≡ is_some (slot_at role channel (book_at line w.whole)).present

abbrev pub CameLaw : Type 0
CameLaw = (plan : Plan) (w : World) (line : ℕ) (role : Role) (channel : ℕ) → Seen plan w
    → line < length w.whole.lines → plan.has_user line role ≡ true
    → is_some (slot_at role channel (book_at line w.register)).caller
    ≡ is_some (slot_at role channel (book_at line w.whole)).caller

abbrev pub PairedLaw : Type 0
PairedLaw = (plan : Plan) (w : World) (line : ℕ) (role : Role) (channel : ℕ) → Seen plan w
    → line < length w.whole.lines → plan.has_user line role ≡ true
    → IsPaired (slot_at role channel (book_at line w.whole)) w.whole.pairs
    → IsPaired (slot_at role channel (book_at line w.register)) w.register.pairs
