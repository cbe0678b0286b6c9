-- New records, and what of a record stays.
use Rattle.std.specs.Prelude.{◌≡◌, ℕ, zero, suc, ◌≤◌, Bool, true, false, cond, if◌then◌else◌, ◌==◌, List, [], ◌∷◌, length, slice_get, Option, Some, None}
use Rattle.std.proofs.Common.{inl, inr, refl, sym, ap, subst, ◌∙◌}
use Rattle.link_timers.specs.declared.role.Role.{Role}
use Rattle.link_timers.specs.declared.role.Role.TheVariants.{Dce}
use Rattle.data_transfer.specs.Packets.{Note, CallParts, Datum}
use Rattle.data_transfer.specs.Packets.Note.{Incoming, Connected, Closed, WasReset, InterruptConfirmed, Covered}
use Rattle.data_transfer.specs.Traffic.{Taken}
use Rattle.data_transfer.specs.Traffic.Taken.{TakenInterrupt, TakenPacket}
use Rattle.packet_channel.specs.Channel.{Channel, Request, Refusal}
use Rattle.packet_channel.specs.Channel.Request.{Accept, Clearing, Resetting, Sending, Interrupting, Stopping, Taking, Releasing, Confirming}
use Rattle.packet_layer.specs.Layer.{Layer, channel_of, channel_given, front_at, request_refusal}
use Rattle.call_records.specs.Closing.{closes_if, closes_present, closed_from}
use Rattle.call_records.specs.Writes.{Write, all_sent, let_go, written_by}
use Rattle.call_records.specs.Records.{RecordValue, new_record, changed_at, with_sent, with_interrupt_sent, with_taken, with_interrupt_taken, with_released, with_covered, with_epoch, with_closed, with_step}
use Rattle.call_records.specs.Book.{Book, Slot, side_of, slot_at, with_slot, with_record, with_change, changed, closes, with_pair, takes, sends, told, all_told}
use Rattle.call_records.specs.Carried.{carried, unless_refused, placed_on}
use Rattle.record_laws.proofs.Books.Basics.{get_before, get_last, number_is}
use Rattle.record_laws.proofs.Books.Writing.{slot_here, size_record}
use Rattle.switch_laws.specs.World.{Act, line_of, after_act}
use Rattle.switch_laws.specs.Joined.{notes_made}
use Rattle.switched_call_laws.specs.SwitchRecords.Written.{may_release_on, request_writes, writes, writes_at, books_after}
use Rattle.switched_call_laws.specs.SwitchRecords.Opened.{Opens, HasSlot, ComesLaw, PlacesLaw, SameHead, HeadLaw, HeadsLaw}
use Rattle.switched_call_laws.proofs.SwitchRecords.Cells.{changed_here, changed_else, slot_records}

-- ---- new records

opens : (c node : ℕ) (own far : Option (List ℕ)) (caller : Option ℕ) (z : Slot) (b : Book) → HasSlot c b → z.present ≡ Some (length b.records) → Opens c own far b (with_slot Dce c z (with_record (new_record (length b.records) node own far caller) b))
opens c node own far caller z b has e =
    let r = new_record (length b.records) node own far caller in
    record {
      present = ap (λ (s : Slot). s.present) (slot_here Dce c z (with_record r b) has.0 (subst (λ (n : ℕ). c ≤ n) (sym ((size_record r b).size Dce)) has.1)) ∙ e;
      it = r;
      there = ap (λ (rs : List RecordValue). slice_get rs (length b.records)) (slot_records Dce c z (with_record r b)) ∙ get_last b.records r;
      own_is = refl;
      far_is = refl;
    }

pub comes_opens : ComesLaw
comes_opens c parts b has = opens c _ _ _ _ _ b has refl

pub places_opens : PlacesLaw
places_opens c parts b has = opens c _ _ _ _ _ b has refl

-- ---- what stays

-- a change that leaves the head
abbrev KeepsHead : (RecordValue → RecordValue) → Type 0
KeepsHead f = (r : RecordValue) → ((f r).number ≡ r.number) × (((f r).node ≡ r.node) × (((f r).own ≡ r.own) × ((f r).far ≡ r.far)))

change_head : (o : Option ℕ) (f : RecordValue → RecordValue) (n : ℕ) (r : RecordValue) (b : Book) → KeepsHead f → SameHead r n b → SameHead r n (with_change o f b)
change_head None f n r b k h = h
change_head (Some m) f n r b k h =
    elim (number_is n m) [
      | inl e ↦
          (let s = k h.it in
          record {
            it = f h.it;
            there = ap (λ (i : ℕ). slice_get (changed_at m f b.records) i) e ∙ changed_here b.records m f h.it (ap (λ (i : ℕ). slice_get b.records i) (sym e) ∙ h.there);
            number = s.0 ∙ h.number;
            node = s.1.0 ∙ h.node;
            own = s.1.1.0 ∙ h.own;
            far = s.1.1.1 ∙ h.far;
          })
      | inr ne ↦ record { it = h.it; there = changed_else b.records m n f ne ∙ h.there; number = h.number; node = h.node; own = h.own; far = h.far }
    ]

changed_head : (x : Role) (c : ℕ) (f : RecordValue → RecordValue) (n : ℕ) (r : RecordValue) (b : Book) → KeepsHead f → SameHead r n b → SameHead r n (changed x c f b)
changed_head x c f n r b k h = change_head (slot_at x c b).present f n r b k h

slot_head : (x : Role) (c : ℕ) (z : Slot) (n : ℕ) (r : RecordValue) (b : Book) → SameHead r n b → SameHead r n (with_slot x c z b)
slot_head x c z n r b h = record { it = h.it; there = ap (λ (rs : List RecordValue). slice_get rs n) (slot_records x c z b) ∙ h.there; number = h.number; node = h.node; own = h.own; far = h.far }

new_head : (x : Role) (c : ℕ) (z : Slot) (new : RecordValue) (n : ℕ) (r : RecordValue) (b : Book) → SameHead r n b → SameHead r n (with_slot x c z (with_record new b))
new_head x c z new n r b h =
    slot_head x c z n r (with_record new b) (record { it = h.it; there = get_before b.records (new ∷ []) n h.it h.there; number = h.number; node = h.node; own = h.own; far = h.far })

closes_head : (x : Role) (c n : ℕ) (r : RecordValue) (b : Book) → SameHead r n b → SameHead r n (closes x c b)
closes_head x c n r b h = slot_head x c (record (slot_at x c b) { present = None; caller = None }) n r (changed x c with_closed b) (changed_head x c with_closed n r b (λ s. (refl, (refl, (refl, refl)))) h)

pair_head : (o p : Option ℕ) (n : ℕ) (r : RecordValue) (b : Book) → SameHead r n b → SameHead r n (with_pair o p b)
pair_head None p n r b h = h
pair_head (Some k) None n r b h = h
pair_head (Some k) (Some m) n r b h = record { it = h.it; there = h.there; number = h.number; node = h.node; own = h.own; far = h.far }

told_head : (x : Role) (note : Note) (n : ℕ) (r : RecordValue) (b : Book) → SameHead r n b → SameHead r n (told x note b)
told_head x (Incoming c parts) n r b h = new_head x c _ _ n r b h
told_head x (Connected c) n r b h = h
told_head x (Closed c cause diagnostic reason) n r b h = closes_head x c n r b h
told_head x (WasReset c cause diagnostic reason) n r b h = changed_head x c with_epoch n r b (λ s. (refl, (refl, (refl, refl)))) h
told_head x (InterruptConfirmed c) n r b h = h
told_head x (Covered c k) n r b h = changed_head x c (with_covered k) n r b (λ s. (refl, (refl, (refl, refl)))) h

all_told_head : (x : Role) (notes : List Note) (n : ℕ) (r : RecordValue) (b : Book) → SameHead r n b → SameHead r n (all_told x notes b)
all_told_head x [] n r b h = h
all_told_head x (note ∷ notes) n r b h = all_told_head x notes n r (told x note b) (told_head x note n r b h)

takes_head : (x : Role) (c : ℕ) (o : Option Taken) (n : ℕ) (r : RecordValue) (b : Book) → SameHead r n b → SameHead r n (takes x c o b)
takes_head x c None n r b h = h
takes_head x c (Some (TakenInterrupt octets)) n r b h = changed_head x c (with_interrupt_taken octets) n r b (λ s. (refl, (refl, (refl, refl)))) h
takes_head x c (Some (TakenPacket d)) n r b h = changed_head x c (with_taken d) n r b (λ s. (refl, (refl, (refl, refl)))) h

carried_head : (x : Role) (c : ℕ) (q : Request) (o : Option Taken) (n : ℕ) (r : RecordValue) (b : Book) → SameHead r n b → SameHead r n (carried x c q o b)
carried_head x c Accept o n r b h = pair_head (slot_at x c b).caller (slot_at x c b).present n r b h
carried_head x c (Clearing cause diagnostic) o n r b h = closes_head x c n r b h
carried_head x c (Resetting cause diagnostic) o n r b h = changed_head x c with_epoch n r b (λ s. (refl, (refl, (refl, refl)))) h
carried_head x c (Sending d) o n r b h = changed_head x c (with_sent d) n r b (λ s. (refl, (refl, (refl, refl)))) h
carried_head x c (Interrupting octets) o n r b h = changed_head x c (with_interrupt_sent octets) n r b (λ s. (refl, (refl, (refl, refl)))) h
carried_head x c (Stopping v) o n r b h = h
carried_head x c Taking o n r b h = takes_head x c o n r b h
carried_head x c (Releasing k) o n r b h = changed_head x c (with_released k) n r b (λ s. (refl, (refl, (refl, refl)))) h
carried_head x c Confirming o n r b h = h

unless_head : (o : Option Refusal) (n : ℕ) (r : RecordValue) (b b' : Book) → SameHead r n b → SameHead r n b' → SameHead r n (unless_refused o b' b)
unless_head None n r b b' h h' = h'
unless_head (Some y) n r b b' h h' = h

places_head : (x : Role) (o : Option ℕ) (parts : CallParts) (n : ℕ) (r : RecordValue) (b : Book) → SameHead r n b → SameHead r n (placed_on x o parts b)
places_head x None parts n r b h = h
places_head x (Some c) parts n r b h = new_head x c _ _ n r b h

requests_head : (x : Role) (c : ℕ) (q : Request) (o : Option Channel) (n : ℕ) (r : RecordValue) (b : Book) → SameHead r n b → SameHead r n (request_writes x c q o b)
requests_head x c (Releasing k) o n r b h = by_room (may_release_on o k)
  where
    by_room : (v : Bool) → SameHead r n (cond v (carried x c (Releasing k) (front_at o) b) b)
    by_room true = carried_head x c (Releasing k) (front_at o) n r b h
    by_room false = h
requests_head x c q o n r b h = carried_head x c q (front_at o) n r b h

sent_head : (x : Role) (c : ℕ) (ds : List Datum) (n : ℕ) (r : RecordValue) (b : Book) → SameHead r n b → SameHead r n (all_sent x c ds b)
sent_head x c [] n r b h = h
sent_head x c (d ∷ ds) n r b h = sent_head x c ds n r (sends x c d b) (changed_head x c (with_sent d) n r b (λ s. (refl, (refl, (refl, refl)))) h)

let_go_head : (x : Role) (c : ℕ) (t : Taken) (n : ℕ) (r : RecordValue) (b : Book) → SameHead r n b → SameHead r n (let_go t x c b)
let_go_head x c (TakenInterrupt octets) n r b h = h
let_go_head x c (TakenPacket d) n r b h = changed_head x c (with_released 1) n r b (λ s. (refl, (refl, (refl, refl)))) h

close_head : (x : Role) (o : Option ℕ) (c n : ℕ) (r : RecordValue) (b : Book) → SameHead r n b → SameHead r n (closes_if o x c b)
close_head x None c n r b h = h
close_head x (Some k) c n r b h = closes_head x c n r b h

closed_head : (x : Role) (count c n : ℕ) (r : RecordValue) (b : Book) → SameHead r n b → SameHead r n (closed_from count c x b)
closed_head x zero c n r b h = h
closed_head x (suc count) c n r b h = closed_head x count (suc c) n r (closes_present x c b) (close_head x (slot_at x c b).present c n r b h)

write_head : (x : Role) (w : Write) (n : ℕ) (r : RecordValue) (b : Book) → SameHead r n b → SameHead r n (written_by x w b)
write_head x (Write.Told notes) n r b h = all_told_head x notes n r b h
write_head x (Write.Placed o parts) n r b h = places_head x o parts n r b h
write_head x (Write.Asked o c q f) n r b h = unless_head o n r b (carried x c q f b) h (carried_head x c q f n r b h)
write_head x (Write.Said o c ds) n r b h = unless_head o n r b (all_sent x c ds b) h (sent_head x c ds n r b h)
write_head x (Write.Took c t) n r b h = let_go_head x c t n r (takes x c (Some t) b) (takes_head x c (Some t) n r b h)
write_head x (Write.Cleared o c) n r b h = unless_head o n r b (closes x c b) h (closes_head x c n r b h)
write_head x (Write.Edited c step) n r b h = changed_head x c (with_step step) n r b (λ s. (refl, (refl, (refl, refl)))) h
write_head x Write.AllClosed n r b h = closed_head x (length (side_of x b).slots) 1 n r b h

pub event_head : HeadLaw
event_head x [] n r b h = h
event_head x (w ∷ ws) n r b h = event_head x ws n r (written_by x w b) (write_head x w n r b h)

act_head : (x : Role) (a : Act) (l : Layer) (n : ℕ) (r : RecordValue) (b : Book) → SameHead r n b → SameHead r n (writes x a l b)
act_head x (Act.Asks p q) l n r b h = unless_head (request_refusal l p.channel q) n r b (request_writes x p.channel q (channel_of l p.channel) b) h (requests_head x p.channel q (channel_of l p.channel) n r b h)
act_head x (Act.Calls k parts) l n r b h = places_head x (channel_given l l.phase) parts n r b h
act_head x (Act.Comes k y) l n r b h = all_told_head x (notes_made (Act.Comes k y) (Some l)) n r b h
act_head x (Act.Expires k t) l n r b h = all_told_head x (notes_made (Act.Expires k t) (Some l)) n r b h
act_head x (Act.GoesUp k) l n r b h = all_told_head x (notes_made (Act.GoesUp k) (Some l)) n r b h
act_head x (Act.GoesDown k) l n r b h = all_told_head x (notes_made (Act.GoesDown k) (Some l)) n r b h
act_head x (Act.Gives k) l n r b h = h
act_head x (Act.Reads k) l n r b h = h

one_head : (a : Act) (v : Bool) (o : Option Layer) (n : ℕ) (r : RecordValue) (b : Book) → SameHead r n b → SameHead r n (if v then writes_at a o b else b)
one_head a true None n r b h = h
one_head a true (Some l) n r b h = act_head Dce a l n r b h
one_head a false o n r b h = h

pub acts_head : HeadsLaw
acts_head [] ys bs line n r h = h
acts_head (a ∷ more) ys bs line n r h = acts_head more (after_act a ys) (books_after a ys bs) line n r (one_head a (line == line_of a) (slice_get ys line) n r (bs line) h)
