-- What is written at the other end of a line.
use Rattle.std.specs.Prelude.{ℕ, zero, suc, ◌≤◌, List, [], ◌∷◌, length, Option, Some, None}
use Rattle.std.proofs.Common.{refl, sym, subst}
use Rattle.link_timers.specs.declared.role.Role.{Role}
use Rattle.link_timers.specs.Role.{other_of}
use Rattle.data_transfer.specs.Packets.{Note, CallParts, Datum}
use Rattle.data_transfer.specs.Traffic.{Taken}
use Rattle.data_transfer.specs.Traffic.Taken.{TakenInterrupt, TakenPacket}
use Rattle.packet_channel.specs.Channel.{Request, Refusal}
use Rattle.packet_channel.specs.Channel.Request.{Accept, Clearing, Resetting, Sending, Interrupting, Stopping, Taking, Releasing, Confirming}
use Rattle.packet_layer.specs.Layer.{Layer, channel_of}
use Rattle.call_records.specs.Records.{with_sent, with_interrupt_sent, with_taken, with_interrupt_taken, with_released, with_epoch, with_step}
use Rattle.call_records.specs.Book.{Book, side_of, slot_at, told, all_told, takes, sends, releases, closes, edits}
use Rattle.call_records.specs.Carried.{carried, unless_refused, placed_on}
use Rattle.record_laws.proofs.Books.Basics.{other_differs}
use Rattle.call_records.specs.Closing.{closes_if, closes_present, closed_from}
use Rattle.call_records.specs.Writes.{Write, all_sent, let_go, written_by, all_written}
use Rattle.switch_laws.specs.Leg.{Leg}
use Rattle.switched_call_laws.specs.SwitchRecords.Records.{call_on, AreRecords}
use Rattle.switched_call_laws.specs.SwitchRecords.SwitchRecordLaws.{PartnerLaw}
use Rattle.switched_call_laws.proofs.SwitchRecords.Cells.{Touches, touches_none, touches_closed, touches_new, touches_answered, changes, apart_after, has_elsewhere}
use Rattle.switched_call_laws.proofs.SwitchRecords.Notes.{TouchesOne, told_touches}

there : (x : Role) (l : Layer) (legs : ℕ → Leg) (b b' : Book) → TouchesOne (other_of x) b b' → AreRecords x l legs b → AreRecords x l legs b'
there x l legs b b' t r = record {
  slots = λ c e. let s = r.slots c e in (s.0, subst (λ (n : ℕ). c ≤ n) (sym (t.touches.size x)) s.1);
  apart = apart_after (other_of x) t.channel b b' t.touches r.apart;
  has = λ c. has_elsewhere (other_of x) t.channel b b' x c (call_on (channel_of l c) (legs c)) t.touches r.apart (λ h. other_differs x (sym h.0)) (r.has c);
}

takes_touch : (x : Role) (c : ℕ) (o : Option Taken) (b : Book) → Touches x c b (takes x c o b)
takes_touch x c None b = touches_none x c b
takes_touch x c (Some (TakenInterrupt octets)) b = changes x c (with_interrupt_taken octets) b
takes_touch x c (Some (TakenPacket d)) b = changes x c (with_taken d) b

pub carried_touches : (x : Role) (c : ℕ) (q : Request) (o : Option Taken) (b : Book) → Touches x c b (carried x c q o b)
carried_touches x c Accept o b = touches_answered x c b
carried_touches x c (Clearing cause diagnostic) o b = touches_closed x c b
carried_touches x c (Resetting cause diagnostic) o b = changes x c with_epoch b
carried_touches x c (Sending d) o b = changes x c (with_sent d) b
carried_touches x c (Interrupting octets) o b = changes x c (with_interrupt_sent octets) b
carried_touches x c (Stopping v) o b = touches_none x c b
carried_touches x c Taking o b = takes_touch x c o b
carried_touches x c (Releasing n) o b = changes x c (with_released n) b
carried_touches x c Confirming o b = touches_none x c b

pub placed_touches : (x : Role) (o : Option ℕ) (parts : CallParts) (b : Book) → TouchesOne x b (placed_on x o parts b)
placed_touches x None parts b = record { channel = 0; touches = touches_none x 0 b }
placed_touches x (Some c) parts b = record { channel = c; touches = touches_new x c _ _ b refl }

-- what holds over each change of one channel holds over all that may be written
module _ (P : Book → Type 0) (x : Role) (keeps : (b b' : Book) → TouchesOne x b b' → P b → P b') where
  at_one : (c : ℕ) (b b' : Book) → Touches x c b b' → P b → P b'
  at_one c b b' t p = keeps b b' (record { channel = c; touches = t }) p

  told_keeps : (notes : List Note) (b : Book) → P b → P (all_told x notes b)
  told_keeps [] b p = p
  told_keeps (note ∷ notes) b p = told_keeps notes (told x note b) (keeps b (told x note b) (told_touches x note b) p)

  unless_keeps : (o : Option Refusal) (b b' : Book) → P b → P b' → P (unless_refused o b' b)
  unless_keeps None b b' p q = q
  unless_keeps (Some r) b b' p q = p

  sent_keeps : (c : ℕ) (ds : List Datum) (b : Book) → P b → P (all_sent x c ds b)
  sent_keeps c [] b p = p
  sent_keeps c (d ∷ ds) b p = sent_keeps c ds (sends x c d b) (at_one c b (sends x c d b) (changes x c (with_sent d) b) p)

  let_go_keeps : (c : ℕ) (t : Taken) (b : Book) → P b → P (let_go t x c b)
  let_go_keeps c (TakenInterrupt octets) b p = p
  let_go_keeps c (TakenPacket d) b p = at_one c b (releases x c 1 b) (changes x c (with_released 1) b) p

  close_keeps : (o : Option ℕ) (c : ℕ) (b : Book) → P b → P (closes_if o x c b)
  close_keeps None c b p = p
  close_keeps (Some n) c b p = at_one c b (closes x c b) (touches_closed x c b) p

  closed_keeps : (count c : ℕ) (b : Book) → P b → P (closed_from count c x b)
  closed_keeps zero c b p = p
  closed_keeps (suc count) c b p = closed_keeps count (suc c) (closes_present x c b) (close_keeps (slot_at x c b).present c b p)

  pub write_keeps : (w : Write) (b : Book) → P b → P (written_by x w b)
  write_keeps (Write.Told notes) b p = told_keeps notes b p
  write_keeps (Write.Placed o parts) b p = keeps b (placed_on x o parts b) (placed_touches x o parts b) p
  write_keeps (Write.Asked o c q f) b p = unless_keeps o b (carried x c q f b) p (at_one c b (carried x c q f b) (carried_touches x c q f b) p)
  write_keeps (Write.Said o c ds) b p = unless_keeps o b (all_sent x c ds b) p (sent_keeps c ds b p)
  write_keeps (Write.Took c t) b p = let_go_keeps c t (takes x c (Some t) b) (at_one c b (takes x c (Some t) b) (takes_touch x c (Some t) b) p)
  write_keeps (Write.Cleared o c) b p = unless_keeps o b (closes x c b) p (at_one c b (closes x c b) (touches_closed x c b) p)
  write_keeps (Write.Edited c step) b p = at_one c b (edits x c step b) (changes x c (with_step step) b) p
  write_keeps Write.AllClosed b p = closed_keeps (length (side_of x b).slots) 1 b p

  pub writes_keep : (ws : List Write) (b : Book) → P b → P (all_written x ws b)
  writes_keep [] b p = p
  writes_keep (w ∷ ws) b p = writes_keep ws (written_by x w b) (write_keeps w b p)

pub partner_leaves : PartnerLaw
partner_leaves x l legs ws b r = writes_keep (λ (y : Book). AreRecords x l legs y) (other_of x) (λ y y' t h. there x l legs y y' t h) ws b r
