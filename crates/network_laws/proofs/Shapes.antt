-- The ends of a line are the same nodes, with as many channels, whatever is written at either end.
use Rattle.std.proofs.Common.{◌≡◌, ℕ, zero, suc, List, [], ◌∷◌, length, Option, Some, None, refl, ap, ◌∙◌}
use Rattle.std.proofs.lemmas.List.{length-set}
use Rattle.link_timers.specs.declared.role.Role.{Role}
use Rattle.link_timers.specs.declared.role.Role.TheVariants.{Dte, Dce}
use Rattle.link_timers.specs.Role.{other_of}
use Rattle.data_transfer.specs.Packets.{CallParts, Datum, Note}
use Rattle.data_transfer.specs.Packets.Note.{Incoming, Connected, Closed, WasReset, InterruptConfirmed, Covered}
use Rattle.data_transfer.specs.Traffic.{Taken}
use Rattle.data_transfer.specs.Traffic.Taken.{TakenInterrupt, TakenPacket}
use Rattle.packet_channel.specs.Channel.{Refusal, Request}
use Rattle.packet_channel.specs.Channel.Request.{Accept, Clearing, Resetting, Sending, Interrupting, Stopping, Taking, Releasing, Confirming}
use Rattle.call_records.specs.Records.{RecordValue, PairValue, new_record, with_closed, with_epoch, with_sent, with_step, with_covered, with_taken, with_interrupt_taken, with_interrupt_sent, with_released}
use Rattle.call_records.specs.Book.{Book, Side, Slot, side_of, slot_at, with_nth, with_slot, with_change, changed, with_record, address_of, calling_from, with_pair, closes, sends, takes, packet_of, told, all_told}
use Rattle.call_records.specs.Closing.{closes_if, closes_present, closed_from}
use Rattle.call_records.specs.Carried.{carried, unless_refused, placed_on}
use Rattle.call_records.specs.Writes.{Write, all_sent, let_go, written_by, all_written}
use Rattle.call_records.specs.Writes.{Write as write}

-- both ends of the line are the nodes that they were, with the addresses that they had and as many channels
abbrev pub outline_of : Side → ℕ × ℕ × List ℕ
outline_of side = (side.node, length side.slots, side.address)

abbrev pub SidesStay : (before after : Book) → Type 0
SidesStay before after = (end : Role) → outline_of (side_of end after) ≡ outline_of (side_of end before)

-- so it is but for the addresses
abbrev pub shape_of : Side → ℕ × ℕ
shape_of side = (side.node, length side.slots)

abbrev pub EndsStay : (before after : Book) → Type 0
EndsStay before after = (end : Role) → shape_of (side_of end after) ≡ shape_of (side_of end before)

stay_twice : (a b c : Book) → SidesStay a b → SidesStay b c → SidesStay a c
stay_twice a b c p q y = q y ∙ p y

change_stays : (o : Option ℕ) (f : RecordValue → RecordValue) (b : Book) → SidesStay b (with_change o f b)
change_stays None f b y = refl
change_stays (Some n) f b Dte = refl
change_stays (Some n) f b Dce = refl

nth_count : (slots : List Slot) (c : ℕ) (z : Slot) → length (with_nth slots c z) ≡ length slots
nth_count slots zero z = refl
nth_count slots (suc i) z = length-set slots i z

slot_stays : (x : Role) (c : ℕ) (z : Slot) (b : Book) → SidesStay b (with_slot x c z b)
slot_stays Dte c z b Dte = λ i. (b.dte.node, nth_count b.dte.slots c z i, b.dte.address)
slot_stays Dte c z b Dce = refl
slot_stays Dce c z b Dte = refl
slot_stays Dce c z b Dce = λ i. (b.dce.node, nth_count b.dce.slots c z i, b.dce.address)

record_stays : (r : RecordValue) (b : Book) → SidesStay b (with_record r b)
record_stays r b Dte = refl
record_stays r b Dce = refl

opens_stays : (x : Role) (c : ℕ) (z : Slot) (r : RecordValue) (b : Book) → SidesStay b (with_slot x c z (with_record r b))
opens_stays x c z r b y = slot_stays x c z (with_record r b) y ∙ record_stays r b y

closes_stays : (x : Role) (c : ℕ) (b : Book) → SidesStay b (closes x c b)
closes_stays x c b y =
    slot_stays x c (record (slot_at x c b) { present = None; caller = None }) (changed x c with_closed b) y
    ∙ change_stays (slot_at x c b).present with_closed b y

told_one : (x : Role) (note : Note) (b : Book) → SidesStay b (told x note b)
told_one x (Incoming c parts) b =
    opens_stays x c (record { present = Some (length b.records); placed = (slot_at x c b).placed; caller = (slot_at (other_of x) c b).placed })
    (new_record (length b.records) (side_of x b).node (address_of parts.called) (address_of parts.calling) (slot_at (other_of x) c b).placed) b
told_one x (Connected c) b = λ y. refl
told_one x (Closed c cause diagnostic reason) b = closes_stays x c b
told_one x (WasReset c cause diagnostic reason) b = change_stays (slot_at x c b).present with_epoch b
told_one x (InterruptConfirmed c) b = λ y. refl
told_one x (Covered c count) b = change_stays (slot_at x c b).present (with_covered count) b

told_stays : (x : Role) (notes : List Note) (b : Book) → SidesStay b (all_told x notes b)
told_stays x [] b = λ y. refl
told_stays x (note ∷ notes) b = stay_twice b (told x note b) (all_told x notes (told x note b)) (told_one x note b) (told_stays x notes (told x note b))

if_closes_stays : (o : Option ℕ) (x : Role) (c : ℕ) (b : Book) → SidesStay b (closes_if o x c b)
if_closes_stays None x c b = λ y. refl
if_closes_stays (Some n) x c b = closes_stays x c b

closed_from_stays : (count c : ℕ) (x : Role) (b : Book) → SidesStay b (closed_from count c x b)
closed_from_stays zero c x b = λ y. refl
closed_from_stays (suc count) c x b =
    stay_twice b (closes_present x c b) (closed_from count (suc c) x (closes_present x c b))
    (if_closes_stays (slot_at x c b).present x c b) (closed_from_stays count (suc c) x (closes_present x c b))

sent_stays : (x : Role) (c : ℕ) (ds : List Datum) (b : Book) → SidesStay b (all_sent x c ds b)
sent_stays x c [] b = λ y. refl
sent_stays x c (d ∷ ds) b =
    stay_twice b (sends x c d b) (all_sent x c ds (sends x c d b)) (change_stays (slot_at x c b).present (with_sent (packet_of d)) b) (sent_stays x c ds (sends x c d b))

refused_stays : (o : Option Refusal) (done b : Book) → SidesStay b done → SidesStay b (unless_refused o done b)
refused_stays None done b h = h
refused_stays (Some r) done b h = λ y. refl

placed_stays : (x : Role) (o : Option ℕ) (parts : CallParts) (b : Book) → SidesStay b (placed_on x o parts b)
placed_stays x None parts b = λ y. refl
placed_stays x (Some c) parts b =
    opens_stays x c (record { present = Some (length b.records); placed = Some (length b.records); caller = None })
    (new_record (length b.records) (side_of x b).node (address_of (calling_from (side_of x b).address parts.calling)) (address_of parts.called) None) b

pairs_stay : (ps : List PairValue) (b : Book) → SidesStay b (record b { pairs = ps })
pairs_stay ps b Dte = refl
pairs_stay ps b Dce = refl

pair_stays : (m n : Option ℕ) (b : Book) → SidesStay b (with_pair m n b)
pair_stays (Some caller) (Some callee) b = pairs_stay _ b
pair_stays None n b = λ y. refl
pair_stays (Some caller) None b = λ y. refl

taken_stays : (x : Role) (c : ℕ) (o : Option Taken) (b : Book) → SidesStay b (takes x c o b)
taken_stays x c None b = λ y. refl
taken_stays x c (Some (TakenInterrupt octets)) b = change_stays (slot_at x c b).present (with_interrupt_taken octets) b
taken_stays x c (Some (TakenPacket d)) b = change_stays (slot_at x c b).present (with_taken (packet_of d)) b

carried_stays : (x : Role) (c : ℕ) (r : Request) (front : Option Taken) (b : Book) → SidesStay b (carried x c r front b)
carried_stays x c Accept front b = pair_stays (slot_at x c b).caller (slot_at x c b).present b
carried_stays x c (Clearing cause diagnostic) front b = closes_stays x c b
carried_stays x c (Resetting cause diagnostic) front b = change_stays (slot_at x c b).present with_epoch b
carried_stays x c (Sending d) front b = change_stays (slot_at x c b).present (with_sent (packet_of d)) b
carried_stays x c (Interrupting octets) front b = change_stays (slot_at x c b).present (with_interrupt_sent octets) b
carried_stays x c Taking front b = taken_stays x c front b
carried_stays x c (Releasing count) front b = change_stays (slot_at x c b).present (with_released count) b
carried_stays x c (Stopping v) front b = λ y. refl
carried_stays x c Confirming front b = λ y. refl

gone_stays : (t : Taken) (x : Role) (c : ℕ) (b : Book) → SidesStay b (let_go t x c b)
gone_stays (TakenInterrupt octets) x c b = λ y. refl
gone_stays (TakenPacket d) x c b = change_stays (slot_at x c b).present (with_released 1) b

-- ---- each write

write_stays : (x : Role) (w : Write) (b : Book) → SidesStay b (written_by x w b)
write_stays x (write.Told notes) b = told_stays x notes b
write_stays x (write.Placed channel parts) b = placed_stays x channel parts b
write_stays x (write.Asked refusal channel r front) b =
    refused_stays refusal (carried x channel r front b) b (carried_stays x channel r front b)
write_stays x (write.Said refusal channel ds) b = refused_stays refusal (all_sent x channel ds b) b (sent_stays x channel ds b)
write_stays x (write.Took channel t) b =
    stay_twice b (takes x channel (Some t) b) (let_go t x channel (takes x channel (Some t) b)) (taken_stays x channel (Some t) b)
    (gone_stays t x channel (takes x channel (Some t) b))
write_stays x (write.Cleared refusal channel) b = refused_stays refusal (closes x channel b) b (closes_stays x channel b)
write_stays x (write.Edited channel step) b = change_stays (slot_at x channel b).present (with_step step) b
write_stays x write.AllClosed b = closed_from_stays (length (side_of x b).slots) 1 x b

pub sides_stay : (x : Role) (ws : List Write) (b : Book) → SidesStay b (all_written x ws b)
sides_stay x [] b = λ y. refl
sides_stay x (w ∷ ws) b = stay_twice b (written_by x w b) (all_written x ws (written_by x w b)) (write_stays x w b) (sides_stay x ws (written_by x w b))

pub writes_stay : (x : Role) (ws : List Write) (b : Book) → EndsStay b (all_written x ws b)
writes_stay x ws b y = ap (λ (p : ℕ × ℕ × List ℕ). (p.0, p.1)) (sides_stay x ws b y)
