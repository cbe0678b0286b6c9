-- The present records of a line's book are the legs of the calls at one end of it.
use Rattle.std.specs.Prelude.{◌≡◌, ℕ, ◌<◌, ◌≤◌, Bool, true, false, if◌then◌else◌, List, [], ◌∷◌, ◌++◌, length}
use Rattle.std.specs.Prelude.{slice_get}
use Rattle.std.specs.Prelude.{Option, Some, None, is_some}
use Rattle.link_timers.specs.declared.role.Role.{Role}
use Rattle.epochs.specs.Epoch.{SentEpoch, TakenEpoch}
use Rattle.packet_channel.specs.Channel.{Channel}
use Rattle.packet_layer.specs.Layer.{Layer, channel_of, had_call}
use Rattle.packet_laws.specs.History.{Epoch}
use Rattle.call_records.specs.Records.{RecordValue}
use Rattle.call_records.specs.Book.{Book, side_of, slot_at}
use Rattle.switch_laws.specs.Leg.{Leg}

-- ---- a leg and a record

-- an epoch of a leg as a record has it
abbrev pub sent_of : Epoch → SentEpoch
sent_of e = record { packets = e.sent; interrupts = e.interrupts_sent; covered = e.covered }

abbrev pub taken_of : Epoch → TakenEpoch
taken_of e = record { packets = e.taken; interrupts = e.interrupts_taken; released = e.released }

-- past epochs, the latest first, in the order of a record
abbrev pub all_sent : List Epoch → List SentEpoch
all_sent [] = []
all_sent (e ∷ es) = all_sent es ++ sent_of e ∷ []

abbrev pub all_taken : List Epoch → List TakenEpoch
all_taken [] = []
all_taken (e ∷ es) = all_taken es ++ taken_of e ∷ []

-- a record has the epochs of a leg
pub record IsRecordOf (g : Leg) (r : RecordValue) : Type 0 where
  pub sent_before : r.sent_before ≡ all_sent g.before
  pub sent : r.sent ≡ sent_of g.epoch
  pub taken_before : r.taken_before ≡ all_taken g.before
  pub taken : r.taken ≡ taken_of g.epoch
  pub open_ : r.closed ≡ false

-- ---- a book

-- the present record of a channel at an end is that of the leg
pub record HasRecord (role : Role) (channel : ℕ) (g : Leg) (b : Book) : Type 0 where
  pub number : ℕ
  pub present : (slot_at role channel b).present ≡ Some number
  pub it : RecordValue
  pub there : slice_get b.records number ≡ Some it
  pub is_of : IsRecordOf g it

-- the present records of all channels at both ends are there, and no two are the same
pub record AreApart (b : Book) : Type 0 where
  pub there : (role : Role) (c n : ℕ) → (slot_at role c b).present ≡ Some n → n < length b.records
  pub apart : (role other : Role) (c d n : ℕ) → (slot_at role c b).present ≡ Some n
      → (slot_at other d b).present ≡ Some n → (role ≡ other) × (c ≡ d)

-- ---- an end with its legs

-- the leg of a channel that has a call
abbrev pub leg_if : Bool → Leg → Option Leg
leg_if call g = if call then Some g else None

abbrev pub call_on : Option Channel → Leg → Option Leg
call_on None g = None
call_on (Some ch) g = leg_if (had_call ch.state) g

-- a channel has the record of its leg, or none where it has no call
abbrev pub Has : Role → (channel : ℕ) → Option Leg → Book → Type 0
Has role c None b = (slot_at role c b).present ≡ None
Has role c (Some g) b = HasRecord role c g b

-- the book has a slot for each channel of the layer
abbrev pub HasSlots : Role → Layer → Book → Type 0
HasSlots role l b = (c : ℕ) → is_some (channel_of l c) ≡ true → (1 ≤ c) × (c ≤ length (side_of role b).slots)

pub record AreRecords (role : Role) (l : Layer) (legs : ℕ → Leg) (b : Book) : Type 0 where
  pub slots : HasSlots role l b
  pub apart : AreApart b
  pub has : (c : ℕ) → Has role c (call_on (channel_of l c) (legs c)) b
