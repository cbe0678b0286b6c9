-- The book of a line: the records of the calls' two ends, the pairs, and for each end of the line, channel by
-- channel, which
-- records belong there. It is written by what the ends' packet layers accept, give and tell.
use Rattle.std.specs.Prelude.{ℕ, zero, suc, Bool, cond, List, [], ◌∷◌, ◌++◌, length, set, replicate, slice_get}
use Rattle.std.specs.Prelude.{Option, Some, None}
use Rattle.link_timers.specs.declared.role.Role.{Role}
use Rattle.link_timers.specs.declared.role.Role.TheVariants.{Dte, Dce}
use Rattle.link_timers.specs.Role.{other_of}
use Rattle.epochs.specs.Item.{DataPacket}
use Rattle.pad_editing.specs.Edited.{Step}
use Rattle.data_transfer.specs.Packets.{CallParts, Datum, Note}
use Rattle.data_transfer.specs.Packets.Note.{Incoming, Connected, Closed, WasReset, InterruptConfirmed, Covered}
use Rattle.data_transfer.specs.Traffic.{Taken}
use Rattle.data_transfer.specs.Traffic.Taken.{TakenInterrupt, TakenPacket}
use Rattle.call_records.specs.Records.{RecordValue, PairValue, new_record, with_step, with_sent, with_interrupt_sent}
use Rattle.call_records.specs.Records.{with_taken, with_interrupt_taken, with_released, with_covered, with_epoch}
use Rattle.call_records.specs.Records.{with_closed, changed_at}

-- a channel at an end of the line: the record of the present call, the record of the call that this end placed there
-- last, and
-- where the present call came in, the record of the end that placed it
pub record Slot : Type 0 where
  pub present : Option ℕ
  pub placed : Option ℕ
  pub caller : Option ℕ

abbrev pub free_slot : Slot
free_slot = record { present = None; placed = None; caller = None }

-- an end of the line: its node, the line's address at the end that has it, of no digits at any other, and its channels
-- 1, 2 and so on
pub record Side : Type 0 where
  pub node : ℕ
  pub address : List ℕ
  pub slots : List Slot

pub record Book : Type 0 where
  pub records : List RecordValue
  pub pairs : List PairValue
  pub dte : Side
  pub dce : Side

-- ---- places in the book

abbrev pub side_of : Role → Book → Side
side_of Dte b = b.dte
side_of Dce b = b.dce

abbrev pub with_slots : Role → List Slot → Book → Book
with_slots Dte slots b = record b { dte = record b.dte { slots = slots } }
with_slots Dce slots b = record b { dce = record b.dce { slots = slots } }

abbrev pub found_slot : Option Slot → Slot
found_slot (Some slot) = slot
found_slot None = free_slot

-- the slot of a channel; where the line has no such channel nothing is kept of it
abbrev pub nth_slot : List Slot → (channel : ℕ) → Slot
nth_slot slots zero = free_slot
nth_slot slots (suc i) = found_slot (slice_get slots i)

abbrev pub with_nth : List Slot → (channel : ℕ) → Slot → List Slot
with_nth slots zero slot = slots
with_nth slots (suc i) slot = set slots i slot

abbrev pub slot_at : Role → (channel : ℕ) → Book → Slot
slot_at role channel b = nth_slot (side_of role b).slots channel

abbrev pub with_slot : Role → (channel : ℕ) → Slot → Book → Book
with_slot role channel slot b = with_slots role (with_nth (side_of role b).slots channel slot) b

-- the record of this number changes, if there is one
abbrev pub with_change : Option ℕ → (RecordValue → RecordValue) → Book → Book
with_change None change b = b
with_change (Some number) change b = record b { records = changed_at number change b.records }

-- the record of the present call on a channel changes
abbrev pub changed : Role → (channel : ℕ) → (RecordValue → RecordValue) → Book → Book
changed role channel change b = with_change (slot_at role channel b).present change b

-- ---- calls begin and end

abbrev pub with_record : RecordValue → Book → Book
with_record r b = record b { records = b.records ++ r ∷ [] }

-- an address of no digits is none
abbrev pub address_of : List ℕ → Option (List ℕ)
address_of [] = None
address_of (digit ∷ digits) = Some (digit ∷ digits)

-- the calling address of a call that was placed on a line with this address: it is the line's, or on a line without an
-- address the one that the call has
abbrev pub calling_from : (address given : List ℕ) → List ℕ
calling_from [] given = given
calling_from (digit ∷ digits) given = digit ∷ digits

-- the end places a call to an address; its own address is the line's, or the one that it gives if it gives any
abbrev pub places_from : Role → (channel : ℕ) → (calling called : List ℕ) → Book → Book
places_from role channel calling called b =
    with_slot role channel (record {
      present = Some (length b.records);
      placed = Some (length b.records);
      caller = None;
    })
    (with_record (new_record (length b.records) (side_of role b).node
    (address_of (calling_from (side_of role b).address calling)) (address_of called) None) b)

-- it gives no address
abbrev pub places : Role → (channel : ℕ) → (called : List ℕ) → Book → Book
places role channel called b = places_from role channel [] called b

-- a call comes in: it is the one that the other end placed last on this channel
abbrev pub comes : Role → (channel : ℕ) → CallParts → Book → Book
comes role channel parts b =
    with_slot role channel (record {
      present = Some (length b.records);
      placed = (slot_at role channel b).placed;
      caller = (slot_at (other_of role) channel b).placed;
    })
    (with_record (new_record (length b.records) (side_of role b).node (address_of parts.called)
    (address_of parts.calling) (slot_at (other_of role) channel b).placed) b)

abbrev pub with_pair : Option ℕ → Option ℕ → Book → Book
with_pair (Some caller) (Some callee) b = record b
    { pairs = b.pairs ++ record { caller = caller; callee = callee } ∷ [] }
with_pair _ _ b = b

-- the end accepts the call that came in: its record and that of the end that placed it are a pair
abbrev pub answers : Role → (channel : ℕ) → Book → Book
answers role channel b = with_pair (slot_at role channel b).caller (slot_at role channel b).present b

-- the present call is over for this end
abbrev pub closes : Role → (channel : ℕ) → Book → Book
closes role channel b =
    with_slot role channel (record (slot_at role channel b) { present = None; caller = None })
    (changed role channel with_closed b)

-- ---- what passes on a call

abbrev pub packet_of : Datum → DataPacket
packet_of d = record { octets = d.octets; more = d.more; qualified = d.qualified; delivery = d.delivery }

abbrev pub renews : Role → (channel : ℕ) → Book → Book
renews role channel b = changed role channel with_epoch b

abbrev pub sends : Role → (channel : ℕ) → Datum → Book → Book
sends role channel d b = changed role channel (with_sent (packet_of d)) b

abbrev pub interrupts : Role → (channel : ℕ) → List ℕ → Book → Book
interrupts role channel octets b = changed role channel (with_interrupt_sent octets) b

abbrev pub takes : Role → (channel : ℕ) → Option Taken → Book → Book
takes role channel None b = b
takes role channel (Some (TakenInterrupt octets)) b = changed role channel (with_interrupt_taken octets) b
takes role channel (Some (TakenPacket d)) b = changed role channel (with_taken (packet_of d)) b

abbrev pub releases : Role → (channel count : ℕ) → Book → Book
releases role channel count b = changed role channel (with_released count) b

abbrev pub covers : Role → (channel count : ℕ) → Book → Book
covers role channel count b = changed role channel (with_covered count) b

-- a step of editing at a PAD
abbrev pub edits : Role → (channel : ℕ) → Step → Book → Book
edits role channel step b = changed role channel (with_step step) b

-- ---- what a packet layer tells

abbrev pub told : Role → Note → Book → Book
told role (Incoming channel parts) b = comes role channel parts b
told role (Connected channel) b = b
told role (Closed channel cause diagnostic reason) b = closes role channel b
told role (WasReset channel cause diagnostic reason) b = renews role channel b
told role (InterruptConfirmed channel) b = b
told role (Covered channel count) b = covers role channel count b

abbrev pub all_told : Role → List Note → Book → Book
all_told role [] b = b
all_told role (note ∷ notes) b = all_told role notes (told role note b)

-- ---- making

-- the line has no address
abbrev pub new_book : (dte_node dce_node channels : ℕ) → Book
new_book dte_node dce_node channels = record {
  records = [];
  pairs = [];
  dte = record { node = dte_node; address = []; slots = replicate channels free_slot };
  dce = record { node = dce_node; address = []; slots = replicate channels free_slot };
}

-- a call stands on the first channel: the DTE counts as the end that placed it, and neither end has an address
abbrev pub standing_book : Book → Book
standing_book b = record {
  records = new_record 0 b.dte.node None None None ∷ new_record 1 b.dce.node None None (Some 0) ∷ [];
  pairs = record { caller = 0; callee = 1 } ∷ [];
  dte = record b.dte { slots = with_nth b.dte.slots 1 (record { present = Some 0; placed = Some 0; caller = None }) };
  dce = record b.dce { slots = with_nth b.dce.slots 1 (record { present = Some 1; placed = None; caller = Some 0 }) };
}

abbrev pub made_book : (dte_node dce_node channels : ℕ) → (standing : Bool) → Book
made_book dte_node dce_node channels standing =
    cond standing (standing_book (new_book dte_node dce_node channels)) (new_book dte_node dce_node channels)
