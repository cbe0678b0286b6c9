-- No epoch of a record is lost, whatever is written.
use Rattle.std.specs.Prelude.{◌≡◌, ℕ, zero, suc, List, [], ◌∷◌, slice_get, Option, Some, None}
use Rattle.std.proofs.Common.{refl, sym, ap, subst, ◌∙◌}
use Rattle.std.proofs.lemmas.Option.{none-some, same_Some}
use Rattle.link_timers.specs.declared.role.Role.{Role}
use Rattle.link_timers.specs.declared.role.Role.TheVariants.{Dte, Dce}
use Rattle.pad_editing.specs.Edited.{Step}
use Rattle.data_transfer.specs.Packets.{CallParts, Note}
use Rattle.data_transfer.specs.Packets.Note.{Incoming, Connected, Closed, WasReset, InterruptConfirmed, Covered}
use Rattle.data_transfer.specs.Traffic.{Taken}
use Rattle.data_transfer.specs.Traffic.Taken.{TakenInterrupt, TakenPacket}
use Rattle.packet_channel.specs.Channel.{Request, Refusal}
use Rattle.packet_channel.specs.Channel.Request.{Accept, Clearing, Resetting, Sending, Interrupting, Stopping, Taking, Releasing, Confirming}
use Rattle.packet_laws.specs.LayerLine.{Line, Event}
use Rattle.packet_laws.specs.LayerLine.Event.{Up, Down, Calls, Requests, Expires, Offers, Arrives}
use Rattle.packet_laws.specs.LayerLine.Happening.{Here, There}
use Rattle.epochs.specs.Item.{DataPacket}
use Rattle.call_records.specs.Records.{RecordValue, changed_at, with_step, with_sent, with_interrupt_sent, with_taken, with_interrupt_taken, with_released, with_covered, with_epoch, with_closed}
use Rattle.call_records.specs.Book.{Book, Slot, packet_of, with_slot, with_change, changed, with_record, with_pair, slot_at, answers, told, all_told}
use Rattle.call_records.specs.Carried.{carried, unless_refused, placed_on}
use Rattle.record_laws.specs.Books.Told.{World, Move, after_move, written, notes_of}
use Rattle.record_laws.specs.Books.Told.Move.{Happens, Edits}
use Rattle.record_laws.specs.Books.Uses.{KeepsEpochs, KeepingLaw}
use Rattle.record_laws.proofs.Books.Basics.{get_before}

abbrev Kept : List RecordValue → List RecordValue → Type 0
Kept rs ss = (i : ℕ) (r : RecordValue) → slice_get rs i ≡ Some r
    → (later : RecordValue) × (slice_get ss i ≡ Some later) × KeepsEpochs r later

-- ---- one record

as_it_was : (r : RecordValue) → KeepsEpochs r r
as_it_was r = record { sent = λ g e there. there; taken = λ g e there. there }

renewed : (r : RecordValue) → KeepsEpochs r (with_epoch r)
renewed r = record {
  sent = λ g e there. get_before r.sent_before _ g e there;
  taken = λ g e there. get_before r.taken_before _ g e there;
}

-- a change that opens no epoch
abbrev Keeps : (RecordValue → RecordValue) → Type 0
Keeps change = (r : RecordValue) → KeepsEpochs r (change r)

closed_keeps : Keeps with_closed
closed_keeps r = record { sent = λ g e there. there; taken = λ g e there. there }

sent_keeps : (p : DataPacket) → Keeps (with_sent p)
sent_keeps p r = record { sent = λ g e there. there; taken = λ g e there. there }

interrupt_sent_keeps : (octets : List ℕ) → Keeps (with_interrupt_sent octets)
interrupt_sent_keeps octets r = record { sent = λ g e there. there; taken = λ g e there. there }

taken_keeps : (p : DataPacket) → Keeps (with_taken p)
taken_keeps p r = record { sent = λ g e there. there; taken = λ g e there. there }

interrupt_taken_keeps : (octets : List ℕ) → Keeps (with_interrupt_taken octets)
interrupt_taken_keeps octets r = record { sent = λ g e there. there; taken = λ g e there. there }

released_keeps : (n : ℕ) → Keeps (with_released n)
released_keeps n r = record { sent = λ g e there. there; taken = λ g e there. there }

covered_keeps : (n : ℕ) → Keeps (with_covered n)
covered_keeps n r = record { sent = λ g e there. there; taken = λ g e there. there }

step_keeps : (step : Step) → Keeps (with_step step)
step_keeps step r = record { sent = λ g e there. there; taken = λ g e there. there }

then_kept : (r s t : RecordValue) → KeepsEpochs r s → KeepsEpochs s t → KeepsEpochs r t
then_kept r s t first second = record {
  sent = λ g e there. second.sent g e (first.sent g e there);
  taken = λ g e there. second.taken g e (first.taken g e there);
}

-- ---- lists

same : (rs : List RecordValue) → Kept rs rs
same rs i r there = (r, there, as_it_was r)

after : (rs ss ts : List RecordValue) → Kept rs ss → Kept ss ts → Kept rs ts
after rs ss ts first second i r there =
    let a = first i r there in
    let b = second i a.0 a.1 in
    (b.0, b.1, then_kept r a.0 b.0 a.2 b.2)

at_place : (n : ℕ) (f : RecordValue → RecordValue) (rs : List RecordValue) → ((r : RecordValue) → KeepsEpochs r (f r)) →
    Kept rs (changed_at n f rs)
at_place n f [] keeps i r there = absurd (none-some r there)
at_place zero f (x ∷ rs) keeps zero r there =
    (f x, refl, subst (λ (y : RecordValue). KeepsEpochs y (f x)) (same_Some x r there) (keeps x))
at_place zero f (x ∷ rs) keeps (suc i) r there = (r, there, as_it_was r)
at_place (suc n) f (x ∷ rs) keeps zero r there = (r, there, as_it_was r)
at_place (suc n) f (x ∷ rs) keeps (suc i) r there = at_place n f rs keeps i r there

-- ---- books

at_number : (o : Option ℕ) (f : RecordValue → RecordValue) (b : Book) → ((r : RecordValue) → KeepsEpochs r (f r)) →
    Kept b.records (with_change o f b).records
at_number None f b keeps = same b.records
at_number (Some n) f b keeps = at_place n f b.records keeps

in_slot : (role : Role) (c : ℕ) (slot : Slot) (b : Book) → (with_slot role c slot b).records ≡ b.records
in_slot Dte c slot b = refl
in_slot Dce c slot b = refl

slotted : (role : Role) (c : ℕ) (slot : Slot) (b : Book) (rs : List RecordValue) → Kept rs b.records →
    Kept rs (with_slot role c slot b).records
slotted role c slot b rs kept = subst (λ (ss : List RecordValue). Kept rs ss) (sym (in_slot role c slot b)) kept

one_more : (r : RecordValue) (b : Book) → Kept b.records (with_record r b).records
one_more r b i x there = (x, get_before b.records _ i x there, as_it_was x)

paired : (o p : Option ℕ) (b : Book) → (with_pair o p b).records ≡ b.records
paired None p b = refl
paired (Some n) None b = refl
paired (Some n) (Some m) b = refl

accepted : (role : Role) (c : ℕ) (b : Book) → Kept b.records (answers role c b).records
accepted role c b =
    subst (λ (ss : List RecordValue). Kept b.records ss)
    (sym (paired (slot_at role c b).caller (slot_at role c b).present b)) (same b.records)

told_kept : (role : Role) (note : Note) (b : Book) → Kept b.records (told role note b).records
told_kept role (Incoming c parts) b = slotted role c _ (with_record _ b) b.records (one_more _ b)
told_kept role (Connected c) b = same b.records
told_kept role (Closed c cause diagnostic reason) b =
    slotted role c _ (changed role c with_closed b) b.records
    (at_number (slot_at role c b).present with_closed b closed_keeps)
told_kept role (WasReset c cause diagnostic reason) b = at_number (slot_at role c b).present with_epoch b renewed
told_kept role (InterruptConfirmed c) b = same b.records
told_kept role (Covered c n) b = at_number (slot_at role c b).present (with_covered n) b (covered_keeps n)

all_kept : (role : Role) (notes : List Note) (b : Book) → Kept b.records (all_told role notes b).records
all_kept role [] b = same b.records
all_kept role (note ∷ notes) b =
    after b.records (told role note b).records _ (told_kept role note b) (all_kept role notes (told role note b))

taken_kept : (role : Role) (c : ℕ) (front : Option Taken) (b : Book) →
    Kept b.records (carried role c Taking front b).records
taken_kept role c None b = same b.records
taken_kept role c (Some (TakenInterrupt octets)) b =
    at_number (slot_at role c b).present (with_interrupt_taken octets) b (interrupt_taken_keeps octets)
taken_kept role c (Some (TakenPacket d)) b =
    at_number (slot_at role c b).present (with_taken (packet_of d)) b (taken_keeps (packet_of d))

carried_kept : (role : Role) (c : ℕ) (r : Request) (front : Option Taken) (b : Book) →
    Kept b.records (carried role c r front b).records
carried_kept role c Accept front b = accepted role c b
carried_kept role c (Clearing cause diagnostic) front b =
    slotted role c _ (changed role c with_closed b) b.records
    (at_number (slot_at role c b).present with_closed b closed_keeps)
carried_kept role c (Resetting cause diagnostic) front b = at_number (slot_at role c b).present with_epoch b renewed
carried_kept role c (Sending d) front b =
    at_number (slot_at role c b).present (with_sent (packet_of d)) b (sent_keeps (packet_of d))
carried_kept role c (Interrupting octets) front b =
    at_number (slot_at role c b).present (with_interrupt_sent octets) b (interrupt_sent_keeps octets)
carried_kept role c Taking front b = taken_kept role c front b
carried_kept role c (Releasing count) front b =
    at_number (slot_at role c b).present (with_released count) b (released_keeps count)
carried_kept role c (Stopping stopped) front b = same b.records
carried_kept role c Confirming front b = same b.records

unless_kept : (o : Option Refusal) (done old : Book) → Kept old.records done.records →
    Kept old.records (unless_refused o done old).records
unless_kept None done old kept = kept
unless_kept (Some r) done old kept = same old.records

placed_kept : (role : Role) (o : Option ℕ) (parts : CallParts) (b : Book) →
    Kept b.records (placed_on role o parts b).records
placed_kept role None parts b = same b.records
placed_kept role (Some c) parts b = slotted role c _ (with_record _ b) b.records (one_more _ b)

written_kept : (role : Role) (event : Event) (w : Line) (b : Book) → Kept b.records (written role event w b).records
written_kept role (Calls parts) w b = placed_kept role _ parts b
written_kept role (Requests c r) w b = unless_kept _ (carried role c r _ b) b (carried_kept role c r _ b)
written_kept role (Up s) w b = all_kept role (notes_of (Up s) w) b
written_kept role Down w b = all_kept role (notes_of Down w) b
written_kept role (Expires t) w b = all_kept role (notes_of (Expires t) w) b
written_kept role Offers w b = all_kept role (notes_of Offers w) b
written_kept role Arrives w b = all_kept role (notes_of Arrives w) b

pub records_keep : KeepingLaw
records_keep (Happens (Here event)) w = written_kept Dte event w.line w.book
records_keep (Happens (There event)) w = written_kept Dce event _ w.book
records_keep (Edits role c step) w = at_number (slot_at role c w.book).present (with_step step) w.book (step_keeps step)
