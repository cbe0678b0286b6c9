-- What an end of a line writes in the line's book, its own side and the other one exchanged.
use Rattle.std.specs.Prelude.{◌≡◌, ℕ, zero, suc, List, [], ◌∷◌, length, Option, Some, None}
use Rattle.std.proofs.Common.{refl, sym, ap, ◌∙◌}
use Rattle.link_timers.specs.declared.role.Role.{Role}
use Rattle.link_timers.specs.declared.role.Role.TheVariants.{Dte, Dce}
use Rattle.link_timers.specs.Role.{other_of}
use Rattle.data_transfer.specs.Packets.{Note, Datum, CallParts}
use Rattle.data_transfer.specs.Packets.Note.{Incoming, Connected, Closed, WasReset, InterruptConfirmed, Covered}
use Rattle.data_transfer.specs.Traffic.{Taken}
use Rattle.data_transfer.specs.Traffic.Taken.{TakenInterrupt, TakenPacket}
use Rattle.packet_channel.specs.Channel.{Request, Refusal}
use Rattle.packet_channel.specs.Channel.Request.{Accept, Clearing, Resetting, Sending, Interrupting, Stopping, Taking, Releasing, Confirming}
use Rattle.call_records.specs.Records.{RecordValue, with_closed, with_sent, with_interrupt_sent, with_taken, with_interrupt_taken, with_released, with_covered, with_epoch, with_step}
use Rattle.call_records.specs.Book.{Book, side_of, slot_at, with_slot, with_change, changed, with_pair, answers, closes, sends, takes, told, all_told, packet_of}
use Rattle.call_records.specs.Carried.{carried, unless_refused, placed_on}
use Rattle.call_records.specs.Closing.{closes_if, closes_present, closed_from}
use Rattle.call_records.specs.Writes.{Write, all_sent, let_go, written_by, all_written}
use Rattle.switched_call_laws.specs.SwitchRecords.Turned.{turned, sight}

-- ---- one record, one pair, one slot

change_turned : (o : Option ℕ) (f : RecordValue → RecordValue) (b : Book) → with_change o f (turned b) ≡ turned (with_change o f b)
change_turned None f b = refl
change_turned (Some n) f b = refl

pair_turned : (o p : Option ℕ) (b : Book) → with_pair o p (turned b) ≡ turned (with_pair o p b)
pair_turned None p b = refl
pair_turned (Some n) None b = refl
pair_turned (Some n) (Some m) b = refl

changed_turned : (r : Role) (c : ℕ) (f : RecordValue → RecordValue) (b : Book) → changed (other_of r) c f (turned b) ≡ turned (changed r c f b)
changed_turned Dte c f b = change_turned (slot_at Dte c b).present f b
changed_turned Dce c f b = change_turned (slot_at Dce c b).present f b

answers_turned : (r : Role) (c : ℕ) (b : Book) → answers (other_of r) c (turned b) ≡ turned (answers r c b)
answers_turned Dte c b = pair_turned (slot_at Dte c b).caller (slot_at Dte c b).present b
answers_turned Dce c b = pair_turned (slot_at Dce c b).caller (slot_at Dce c b).present b

closes_turned : (r : Role) (c : ℕ) (b : Book) → closes (other_of r) c (turned b) ≡ turned (closes r c b)
closes_turned Dte c b = ap (λ x. with_slot Dce c (record (slot_at Dte c b) { present = None; caller = None }) x) (changed_turned Dte c with_closed b)
closes_turned Dce c b = ap (λ x. with_slot Dte c (record (slot_at Dce c b) { present = None; caller = None }) x) (changed_turned Dce c with_closed b)

-- ---- what a packet layer tells

told_turned : (r : Role) (note : Note) (b : Book) → told (other_of r) note (turned b) ≡ turned (told r note b)
told_turned Dte (Incoming c parts) b = refl
told_turned Dce (Incoming c parts) b = refl
told_turned r (Connected c) b = refl
told_turned r (Closed c cause diagnostic reason) b = closes_turned r c b
told_turned r (WasReset c cause diagnostic reason) b = changed_turned r c with_epoch b
told_turned r (InterruptConfirmed c) b = refl
told_turned r (Covered c n) b = changed_turned r c (with_covered n) b

all_told_turned : (r : Role) (notes : List Note) (b : Book) → all_told (other_of r) notes (turned b) ≡ turned (all_told r notes b)
all_told_turned r [] b = refl
all_told_turned r (note ∷ notes) b = ap (λ x. all_told (other_of r) notes x) (told_turned r note b) ∙ all_told_turned r notes (told r note b)

-- ---- what a user asks

placed_turned : (r : Role) (o : Option ℕ) (parts : CallParts) (b : Book) → placed_on (other_of r) o parts (turned b) ≡ turned (placed_on r o parts b)
placed_turned r None parts b = refl
placed_turned Dte (Some c) parts b = refl
placed_turned Dce (Some c) parts b = refl

takes_turned : (r : Role) (c : ℕ) (o : Option Taken) (b : Book) → takes (other_of r) c o (turned b) ≡ turned (takes r c o b)
takes_turned r c None b = refl
takes_turned r c (Some (TakenInterrupt octets)) b = changed_turned r c (with_interrupt_taken octets) b
takes_turned r c (Some (TakenPacket d)) b = changed_turned r c (with_taken (packet_of d)) b

carried_turned : (r : Role) (c : ℕ) (q : Request) (o : Option Taken) (b : Book) → carried (other_of r) c q o (turned b) ≡ turned (carried r c q o b)
carried_turned r c Accept o b = answers_turned r c b
carried_turned r c (Clearing cause diagnostic) o b = closes_turned r c b
carried_turned r c (Resetting cause diagnostic) o b = changed_turned r c with_epoch b
carried_turned r c (Sending d) o b = changed_turned r c (with_sent (packet_of d)) b
carried_turned r c (Interrupting octets) o b = changed_turned r c (with_interrupt_sent octets) b
carried_turned r c (Stopping v) o b = refl
carried_turned r c Taking o b = takes_turned r c o b
carried_turned r c (Releasing n) o b = changed_turned r c (with_released n) b
carried_turned r c Confirming o b = refl

unless_turned : (o : Option Refusal) (done done' b : Book) → done' ≡ turned done → unless_refused o done' (turned b) ≡ turned (unless_refused o done b)
unless_turned None done done' b e = e
unless_turned (Some refusal) done done' b e = refl

all_sent_turned : (r : Role) (c : ℕ) (ds : List Datum) (b : Book) → all_sent (other_of r) c ds (turned b) ≡ turned (all_sent r c ds b)
all_sent_turned r c [] b = refl
all_sent_turned r c (d ∷ ds) b = ap (λ x. all_sent (other_of r) c ds x) (changed_turned r c (with_sent (packet_of d)) b) ∙ all_sent_turned r c ds (sends r c d b)

let_go_turned : (t : Taken) (r : Role) (c : ℕ) (b : Book) → let_go t (other_of r) c (turned b) ≡ turned (let_go t r c b)
let_go_turned (TakenInterrupt octets) r c b = refl
let_go_turned (TakenPacket d) r c b = changed_turned r c (with_released 1) b

-- ---- all calls are over

closes_if_turned : (o : Option ℕ) (r : Role) (c : ℕ) (b : Book) → closes_if o (other_of r) c (turned b) ≡ turned (closes_if o r c b)
closes_if_turned None r c b = refl
closes_if_turned (Some n) r c b = closes_turned r c b

present_turned : (r : Role) (c : ℕ) (b : Book) → closes_present (other_of r) c (turned b) ≡ turned (closes_present r c b)
present_turned Dte c b = closes_if_turned (slot_at Dte c b).present Dte c b
present_turned Dce c b = closes_if_turned (slot_at Dce c b).present Dce c b

closed_turned : (count c : ℕ) (r : Role) (b : Book) → closed_from count c (other_of r) (turned b) ≡ turned (closed_from count c r b)
closed_turned zero c r b = refl
closed_turned (suc count) c r b = ap (λ x. closed_from count (suc c) (other_of r) x) (present_turned r c b) ∙ closed_turned count (suc c) r (closes_present r c b)

-- ---- all that may be written

written_turned : (r : Role) (w : Write) (b : Book) → written_by (other_of r) w (turned b) ≡ turned (written_by r w b)
written_turned r (Write.Told notes) b = all_told_turned r notes b
written_turned r (Write.Placed o parts) b = placed_turned r o parts b
written_turned r (Write.Asked o c q f) b = unless_turned o (carried r c q f b) (carried (other_of r) c q f (turned b)) b (carried_turned r c q f b)
written_turned r (Write.Said o c ds) b = unless_turned o (all_sent r c ds b) (all_sent (other_of r) c ds (turned b)) b (all_sent_turned r c ds b)
written_turned r (Write.Took c t) b = ap (λ x. let_go t (other_of r) c x) (takes_turned r c (Some t) b) ∙ let_go_turned t r c (takes r c (Some t) b)
written_turned r (Write.Cleared o c) b = unless_turned o (closes r c b) (closes (other_of r) c (turned b)) b (closes_turned r c b)
written_turned r (Write.Edited c step) b = changed_turned r c (with_step step) b
written_turned Dte Write.AllClosed b = closed_turned (length (side_of Dte b).slots) 1 Dte b
written_turned Dce Write.AllClosed b = closed_turned (length (side_of Dce b).slots) 1 Dce b

all_turned : (r : Role) (ws : List Write) (b : Book) → all_written (other_of r) ws (turned b) ≡ turned (all_written r ws b)
all_turned r [] b = refl
all_turned r (w ∷ ws) b = ap (λ x. all_written (other_of r) ws x) (written_turned r w b) ∙ all_turned r ws (written_by r w b)

-- ---- in the sight of an end

-- what the end sees is as it was where it sees it twice
pub sight_back : (r : Role) (b : Book) → sight r (sight r b) ≡ b
sight_back Dte b = refl
sight_back Dce b = refl

-- what the end itself writes is written at the DCE in its sight
pub written_seen : (r : Role) (ws : List Write) (b : Book) → all_written r ws (sight r b) ≡ sight r (all_written Dce ws b)
written_seen Dte ws b = all_turned Dce ws b
written_seen Dce ws b = refl

-- what the other end writes is written at the DTE
pub partner_seen : (r : Role) (ws : List Write) (b : Book) → all_written (other_of r) ws (sight r b) ≡ sight r (all_written Dte ws b)
partner_seen Dte ws b = all_turned Dte ws b
partner_seen Dce ws b = refl

crossed : (r : Role) (b : Book) → sight (other_of r) b ≡ turned (sight r b)
crossed Dte b = refl
crossed Dce b = refl

-- what an end writes in its own sight is written at the DTE in the sight of the other one
pub written_across : (r : Role) (ws : List Write) (old new : Book) → sight r new ≡ all_written Dce ws (sight r old) → sight (other_of r) new ≡ all_written Dte ws (sight (other_of r) old)
written_across r ws old new e =
    crossed r new
    ∙ (ap (λ (x : Book). turned x) e ∙ (sym (all_turned Dce ws (sight r old)) ∙ ap (λ (x : Book). all_written Dte ws x) (sym (crossed r old))))
