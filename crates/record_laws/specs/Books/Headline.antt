-- What the book of a line promises of its calls.
use Rattle.std.specs.Prelude.{◌≡◌, ℕ, ◌<◌, ◌≤◌, ◌⊎◌, Bool, false, List, length, slice_get, Option, Some}
use Rattle.std.specs.Prelude.{None}
use Rattle.std.specs.Prelude.{is_some, true, map}
use Rattle.link_timers.specs.declared.role.Role.{Role}
use Rattle.link_timers.specs.declared.role.Role.TheVariants.{Dte, Dce}
use Rattle.link_timers.specs.Role.{other_of}
use Rattle.packet_channel.specs.Channel.{Channel, may_accept, in_transfer}
use Rattle.packet_layer.specs.Layer.{Layer, channel_of, had_call}
use Rattle.epochs.specs.Match.{Match}
use Rattle.epochs.specs.Confirmed.{Confirms}
use Rattle.data_transfer.specs.Flow.{modulus}
use Rattle.data_transfer.specs.declared.flow.Flow.{Flow}
use Rattle.call_records.specs.Records.{RecordValue, PairValue, sent_epochs, taken_epochs}
use Rattle.call_records.specs.Book.{Book, Slot, side_of, slot_at}
use Rattle.record_laws.specs.Words.{IsTakenFrom, sent_by, all_taken_by, ArePaired}
use Rattle.record_laws.specs.Books.Told.{World, Move, after_all, all_callers, made_callers, AreAllowed, start}

-- so it is both ways, and so the epochs that one end took match those that the other end sent; by one such matching
-- what is confirmed to the one end was taken by the other
pub record PairMatches (caller callee : RecordValue) : Type 0 where
  pub onward_aligned : IsTakenFrom caller callee
  pub backward_aligned : IsTakenFrom callee caller
  pub onward : Match (taken_epochs callee) (sent_epochs caller)
  pub backward : Match (taken_epochs caller) (sent_epochs callee)
  pub onward_confirmed : Confirms (all_taken_by callee) (sent_by caller)
  pub backward_confirmed : Confirms (all_taken_by caller) (sent_by callee)

-- two nodes are those of the line's two ends
abbrev pub AreEnds : Book → (a b : ℕ) → Type 0
AreEnds book a b = ((a ≡ book.dte.node) × (b ≡ book.dce.node)) ⊎ ((a ≡ book.dce.node) × (b ≡ book.dte.node))

-- the caller's record was made first; the callee's node is the other one of the line, its own address is the one that
-- was called, and the far one is the calling address that the caller gave, if it gave any
pub record PairIsRight (book : Book) (caller callee : RecordValue) : Type 0 where
  pub order : caller.number < callee.number
  pub ends : AreEnds book caller.node callee.node
  pub address : callee.own ≡ caller.far
  pub calling : callee.far ≡ caller.own

-- the two records of a pair are there, what was taken matches what was sent, both ways, and the pair is right
pub record PairHolds (book : Book) (pair : PairValue) : Type 0 where
  pub caller : RecordValue
  pub callee : RecordValue
  pub caller_there : slice_get book.records pair.caller ≡ Some caller
  pub callee_there : slice_get book.records pair.callee ≡ Some callee
  pub matches : PairMatches caller callee
  pub is_right : PairIsRight book caller callee

pub record BookHolds (book : Book) : Type 0 where
  -- each pair holds
  pub pairs_hold : (i : ℕ) (pair : PairValue) → slice_get book.pairs i ≡ Some pair → PairHolds book pair
  -- the records are numbered and paired
  pub paired : ArePaired book.records book.pairs
  -- each record is of one of the line's two nodes
  pub nodes : (i : ℕ) (r : RecordValue) → slice_get book.records i ≡ Some r
      → (r.node ≡ book.dte.node) ⊎ (r.node ≡ book.dce.node)

-- whatever happens on a line whose sessions come in rising order
abbrev pub BookLaw : Type 0
BookLaw = (dte_node dce_node channels : ℕ) (flow : Flow) (standing : Bool) → 1 ≤ channels → flow.window < modulus flow.numbering
    → (ms : List Move) → AreAllowed ms (start dte_node dce_node channels flow standing)
    → BookHolds (after_all ms (start dte_node dce_node channels flow standing)).book

-- ---- present records

-- the record of this number is there, is one of this end's node, and its call is not closed
pub record IsOpenHere (book : Book) (role : Role) (number : ℕ) : Type 0 where
  pub value : RecordValue
  pub there : slice_get book.records number ≡ Some value
  pub node : value.node ≡ (side_of role book).node
  pub is_open : value.closed ≡ false

-- a channel at an end has this record as the present one
pub record IsPresent (book : Book) (number : ℕ) : Type 0 where
  pub role : Role
  pub channel : ℕ
  pub present : (slot_at role channel book).present ≡ Some number

-- each present record is there, of this end's node and open, and no other channel has it; and each open record is
-- present
pub record HaveRecords (book : Book) : Type 0 where
  pub present : (role : Role) (channel number : ℕ) → (slot_at role channel book).present ≡ Some number
      → IsOpenHere book role number
  pub one_place : (a b : Role) (c d number : ℕ) → (slot_at a c book).present ≡ Some number
      → (slot_at b d book).present ≡ Some number → (a ≡ b) × (c ≡ d)
  pub are_present : (number : ℕ) (r : RecordValue) → slice_get book.records number ≡ Some r → r.closed ≡ false
      → IsPresent book number

abbrev pub RecordsLaw : Type 0
RecordsLaw = (dte_node dce_node channels : ℕ) (flow : Flow) (standing : Bool) → 1 ≤ channels → flow.window < modulus flow.numbering
    → (ms : List Move) → AreAllowed ms (start dte_node dce_node channels flow standing)
    → HaveRecords (after_all ms (start dte_node dce_node channels flow standing)).book

-- ---- the book beside the packet layers

abbrev pub layer_at : Role → World → Layer
layer_at Dte w = w.line.me.layer
layer_at Dce w = w.line.you.layer

-- a channel has a call
abbrev pub has_call : Option Channel → Bool
has_call None = false
has_call (Some ch) = had_call ch.state

-- at each end the book has the channels of the layer, and a present record exactly where the layer has a call
pub record IsBeside (w : World) : Type 0 where
  pub channels : (role : Role) → length (side_of role w.book).slots ≡ length (layer_at role w).channels
  pub present : (role : Role) (c : ℕ)
      → is_some (slot_at role c w.book).present ≡ has_call (channel_of (layer_at role w) c)

abbrev pub PresentLaw : Type 0
PresentLaw = (dte_node dce_node channels : ℕ) (flow : Flow) (standing : Bool) → 1 ≤ channels → flow.window < modulus flow.numbering
    → (ms : List Move) → AreAllowed ms (start dte_node dce_node channels flow standing)
    → IsBeside (after_all ms (start dte_node dce_node channels flow standing))

-- ---- calls that came in, and calls that were placed

-- the present call of a channel came in, and its record is in a pair with that of the end that placed it
pub record IsPaired (slot : Slot) (pairs : List PairValue) : Type 0 where
  pub caller : ℕ
  pub callee : ℕ
  pub present : slot.present ≡ Some callee
  pub came : slot.caller ≡ Some caller
  pub place : ℕ
  pub there : slice_get pairs place ≡ Some (record { caller = caller; callee = callee })

-- the present call of a channel is the last that the end placed there, and its record is in a pair; where the present
-- call of the channel at the other end came in, the pair is of that one
pub record HasCallee (book : Book) (role : Role) (channel : ℕ) : Type 0 where
  pub caller : ℕ
  pub callee : ℕ
  pub present : (slot_at role channel book).present ≡ Some caller
  pub placed : (slot_at role channel book).placed ≡ Some caller
  pub place : ℕ
  pub there : slice_get book.pairs place ≡ Some (record { caller = caller; callee = callee })
  pub far : (a c : ℕ) → (slot_at (other_of role) channel book).caller ≡ Some a
      → (slot_at (other_of role) channel book).present ≡ Some c → (a ≡ caller) × (c ≡ callee)

-- where an end may accept a call, the book has it as one that came in; and in data transfer each call is in a pair,
-- whether it came in or was placed
pub record AreAnswered (w : World) : Type 0 where
  pub came : (role : Role) (c : ℕ) (ch : Channel) → channel_of (layer_at role w) c ≡ Some ch
      → may_accept role ch.state ≡ true
      → is_some (slot_at role c w.book).caller ≡ true
  pub paired : (role : Role) (c : ℕ) (ch : Channel) → channel_of (layer_at role w) c ≡ Some ch
      → in_transfer ch.state ≡ true → is_some (slot_at role c w.book).caller ≡ true
      → IsPaired (slot_at role c w.book) w.book.pairs
  pub placed : (role : Role) (c : ℕ) (ch : Channel) → channel_of (layer_at role w) c ≡ Some ch
      → in_transfer ch.state ≡ true → is_some (slot_at role c w.book).caller ≡ false → HasCallee w.book role c

abbrev pub AnsweredLaw : Type 0
AnsweredLaw = (dte_node dce_node channels : ℕ) (flow : Flow) (standing : Bool) → 1 ≤ channels → flow.window < modulus flow.numbering
    → (ms : List Move) → AreAllowed ms (start dte_node dce_node channels flow standing)
    → AreAnswered (after_all ms (start dte_node dce_node channels flow standing))

-- each call that came in holds as a pair does, accepted or not, and of each call that was placed one came in at most;
-- `callers` has for each record, where the call came in, the record of the end that placed it
pub record CallsHold (book : Book) (callers : List (Option ℕ)) : Type 0 where
  pub count : length callers ≡ length book.records
  pub came : (callee caller : ℕ) → slice_get callers callee ≡ Some (Some caller)
      → PairHolds book (record { caller = caller; callee = callee })
  pub once : (a b caller : ℕ) → slice_get callers a ≡ Some (Some caller) → slice_get callers b ≡ Some (Some caller)
      → a ≡ b

abbrev pub CallsLaw : Type 0
CallsLaw = (dte_node dce_node channels : ℕ) (flow : Flow) (standing : Bool) → 1 ≤ channels → flow.window < modulus flow.numbering
    → (ms : List Move) → AreAllowed ms (start dte_node dce_node channels flow standing)
    → CallsHold (after_all ms (start dte_node dce_node channels flow standing)).book
    (all_callers ms (start dte_node dce_node channels flow standing) (made_callers standing))

-- and each record says so itself
abbrev pub CallersLaw : Type 0
CallersLaw = (dte_node dce_node channels : ℕ) (flow : Flow) (standing : Bool) → 1 ≤ channels → flow.window < modulus flow.numbering
    → (ms : List Move) → AreAllowed ms (start dte_node dce_node channels flow standing)
    → map (λ r. r.caller) (after_all ms (start dte_node dce_node channels flow standing)).book.records
    ≡ all_callers ms (start dte_node dce_node channels flow standing) (made_callers standing)
