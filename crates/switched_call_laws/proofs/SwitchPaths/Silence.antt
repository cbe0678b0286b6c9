-- Writes at an end that send nothing and accept no call leave what was sent, and the pairs.
use Rattle.std.specs.Prelude.{◌≡◌, ℕ, zero, suc, ◌⊎◌, false, List, [], ◌∷◌, ◌++◌, map, slice_get, Option, Some, None}
use Rattle.std.proofs.Common.{inl, inr, refl, sym, ap, subst, ◌∙◌}
use Rattle.std.proofs.lemmas.Option.{none-some, same_Some}
use Rattle.link_timers.specs.declared.role.Role.{Role}
use Rattle.link_timers.specs.declared.role.Role.TheVariants.{Dce}
use Rattle.epochs.specs.Epoch.{Epoch, SentEpoch, nothing_sent, sent_epoch, IsEmpty}
use Rattle.epochs.specs.Confirmed.{sent_confirmed}
use Rattle.epochs.specs.ConfirmedLaws.{AreEmpty}
use Rattle.data_transfer.specs.Packets.{Note}
use Rattle.data_transfer.specs.Packets.Note.{Incoming, Connected, Closed, WasReset, InterruptConfirmed, Covered}
use Rattle.data_transfer.specs.Traffic.{Taken}
use Rattle.data_transfer.specs.Traffic.Taken.{TakenInterrupt, TakenPacket}
use Rattle.packet_channel.specs.Channel.{Request, Refusal}
use Rattle.packet_channel.specs.Channel.Request.{Accept, Clearing, Resetting, Sending, Interrupting, Stopping, Taking, Releasing, Confirming}
use Rattle.call_records.specs.Records.{RecordValue, with_taken, with_interrupt_taken, with_released, with_covered, with_epoch, with_closed, changed_at}
use Rattle.call_records.specs.Book.{Book, Slot, slot_at, with_slot, with_record, with_change, changed, closes, takes, told, all_told}
use Rattle.call_records.specs.Carried.{carried, unless_refused}
use Rattle.call_records.specs.Writes.{Write, written_by, all_written}
use Rattle.call_records.specs.Writes.Write.{Told, Placed, Asked, Said, Took, Cleared, Edited, AllClosed}
use Rattle.record_laws.specs.Words.{sent_by}
use Rattle.switched_call_laws.specs.SwitchRecords.Turned.{sight}
use Rattle.switched_call_laws.proofs.SwitchRecords.Turned.{sight_back, written_seen}
use Rattle.switched_call_laws.proofs.SwitchRecords.Cells.{slot_records, slot_pairs}
use Rattle.switched_call_laws.proofs.JoinedCalls.Following.{IsQuietRequest}

-- ---- a record

empty_last : (xs : List SentEpoch) (s s' : SentEpoch) → sent_epoch s' ≡ sent_epoch s → AreEmpty (map sent_confirmed (xs ++ s ∷ [])) → AreEmpty (map sent_confirmed (xs ++ s' ∷ []))
empty_last [] s s' e h = (subst (λ (x : Epoch). IsEmpty x) (sym e) h.0, tt)
empty_last (x ∷ xs) s s' e h = (h.0, empty_last xs s s' e h.1)

empty_more : (xs : List SentEpoch) → AreEmpty (map sent_confirmed xs) → AreEmpty (map sent_confirmed (xs ++ nothing_sent ∷ []))
empty_more [] h = (record { items = refl; interrupts = refl }, tt)
empty_more (x ∷ xs) h = (h.0, empty_more xs h.1)

abbrev pub SentNothing : RecordValue → Type 0
SentNothing r = AreEmpty (sent_by r)

abbrev IsSilent : (RecordValue → RecordValue) → Type 0
IsSilent f = (r : RecordValue) → SentNothing r → SentNothing (f r)

covered_silent : (n : ℕ) → IsSilent (with_covered n)
covered_silent n r h = empty_last r.sent_before r.sent (with_covered n r).sent refl h

epoch_silent : IsSilent with_epoch
epoch_silent r h = empty_more (r.sent_before ++ r.sent ∷ []) h

-- ---- a book

-- each record is one that was there, and sent nothing if that one had, or it is a new one that sent nothing; and the
-- pairs are the same
pub record Silent (b b' : Book) : Type 0 where
  pub records : (i : ℕ) (r' : RecordValue) → slice_get b'.records i ≡ Some r'
      → ((r : RecordValue) × ((slice_get b.records i ≡ Some r) × (SentNothing r → SentNothing r'))) ⊎ SentNothing r'
  pub pairs : b'.pairs ≡ b.pairs

pub silent_itself : (b : Book) → Silent b b
silent_itself b = record { records = λ i r e. inl (r, (e, λ h. h)); pairs = refl }

pub silent_then : (a b c : Book) → Silent a b → Silent b c → Silent a c
silent_then a b c s t = record {
  records = λ i r e. elim (t.records i r e) [
    | inl x ↦ elim (s.records i x.0 x.1.0) [ inl y ↦ inl (y.0, (y.1.0, λ h. x.1.1 (y.1.1 h))) | inr y ↦ inr (x.1.1 y) ]
    | inr x ↦ inr x
  ];
  pairs = t.pairs ∙ s.pairs;
}

pub same_records : (b b' : Book) → b'.records ≡ b.records → b'.pairs ≡ b.pairs → Silent b b'
same_records b b' e p = record { records = λ i r f. inl (r, (ap (λ (rs : List RecordValue). slice_get rs i) (sym e) ∙ f, λ h. h)); pairs = p }

pub changed_was : (rs : List RecordValue) (n : ℕ) (f : RecordValue → RecordValue) (i : ℕ) (r' : RecordValue) → slice_get (changed_at n f rs) i ≡ Some r' → (r : RecordValue) × ((slice_get rs i ≡ Some r) × (((i ≡ n) × (r' ≡ f r)) ⊎ (r' ≡ r)))
changed_was [] n f i r' e = absurd (none-some r' e)
changed_was (s ∷ rs) zero f zero r' e = (s, (refl, inl (refl, sym (same_Some (f s) r' e))))
changed_was (s ∷ rs) zero f (suc i) r' e = (r', (e, inr refl))
changed_was (s ∷ rs) (suc n) f zero r' e = (s, (refl, inr (sym (same_Some s r' e))))
changed_was (s ∷ rs) (suc n) f (suc i) r' e =
    let k = changed_was rs n f i r' e in
    (k.0, (k.1.0, elim k.1.1 [ inl h ↦ inl (ap suc h.0, h.1) | inr h ↦ inr h ]))

change_silent : (o : Option ℕ) (f : RecordValue → RecordValue) (b : Book) → IsSilent f → Silent b (with_change o f b)
change_silent None f b s = silent_itself b
change_silent (Some n) f b s = record {
  records = λ i r' e.
      let k = changed_was b.records n f i r' e in
      inl (k.0, (k.1.0, λ h. elim k.1.1 [ inl x ↦ subst (λ (r : RecordValue). SentNothing r) (sym x.1) (s k.0 h) | inr x ↦ subst (λ (r : RecordValue). SentNothing r) (sym x) h ]));
  pairs = refl;
}

changed_silent : (c : ℕ) (f : RecordValue → RecordValue) (b : Book) → IsSilent f → Silent b (changed Dce c f b)
changed_silent c f b s = change_silent (slot_at Dce c b).present f b s

last_or_before : (rs : List RecordValue) (x : RecordValue) (i : ℕ) (r : RecordValue) → slice_get (rs ++ x ∷ []) i ≡ Some r → (slice_get rs i ≡ Some r) ⊎ (r ≡ x)
last_or_before [] x zero r e = inr (sym (same_Some x r e))
last_or_before [] x (suc i) r e = absurd (none-some r e)
last_or_before (y ∷ rs) x zero r e = inl e
last_or_before (y ∷ rs) x (suc i) r e = last_or_before rs x i r e

pub pushed_silent : (role : Role) (x : RecordValue) (z : Slot) (c : ℕ) (b : Book) → SentNothing x → Silent b (with_slot role c z (with_record x b))
pushed_silent role x z c b h = record {
  records = λ i r e. elim (last_or_before b.records x i r (sym (ap (λ (rs : List RecordValue). slice_get rs i) (slot_records role c z (with_record x b))) ∙ e)) [
    | inl old ↦ inl (r, (old, λ k. k))
    | inr new ↦ inr (subst (λ (y : RecordValue). SentNothing y) (sym new) h)
  ];
  pairs = slot_pairs role c z (with_record x b);
}

pub nothing_yet : SentNothing (record { number = 0; node = 0; own = None; far = None; caller = None; path = []; sent_before = []; sent = nothing_sent; taken_before = []; taken = record { packets = []; interrupts = []; released = 0 }; closed = false; steps = [] })
nothing_yet = (record { items = refl; interrupts = refl }, tt)

closes_silent : (c : ℕ) (b : Book) → Silent b (closes Dce c b)
closes_silent c b =
    silent_then b (changed Dce c with_closed b) (closes Dce c b) (changed_silent c with_closed b (λ r h. h))
    (same_records (changed Dce c with_closed b) (closes Dce c b) (slot_records Dce c (record (slot_at Dce c b) { present = None; caller = None }) (changed Dce c with_closed b)) (slot_pairs Dce c (record (slot_at Dce c b) { present = None; caller = None }) (changed Dce c with_closed b)))

told_silent : (note : Note) (b : Book) → Silent b (told Dce note b)
told_silent (Incoming c parts) b = pushed_silent Dce _ _ c b nothing_yet
told_silent (Connected c) b = silent_itself b
told_silent (Closed c cause diagnostic reason) b = closes_silent c b
told_silent (WasReset c cause diagnostic reason) b = changed_silent c with_epoch b epoch_silent
told_silent (InterruptConfirmed c) b = silent_itself b
told_silent (Covered c n) b = changed_silent c (with_covered n) b (covered_silent n)

all_told_silent : (notes : List Note) (b : Book) → Silent b (all_told Dce notes b)
all_told_silent [] b = silent_itself b
all_told_silent (note ∷ notes) b = silent_then b (told Dce note b) (all_told Dce notes (told Dce note b)) (told_silent note b) (all_told_silent notes (told Dce note b))

takes_silent : (c : ℕ) (o : Option Taken) (b : Book) → Silent b (takes Dce c o b)
takes_silent c None b = silent_itself b
takes_silent c (Some (TakenInterrupt octets)) b = changed_silent c (with_interrupt_taken octets) b (λ r h. h)
takes_silent c (Some (TakenPacket d)) b = changed_silent c (with_taken d) b (λ r h. h)

carried_silent : (c : ℕ) (q : Request) (o : Option Taken) (b : Book) → IsQuietRequest q → Silent b (carried Dce c q o b)
carried_silent c Accept o b i = absurd i
carried_silent c (Clearing cause diagnostic) o b i = closes_silent c b
carried_silent c (Resetting cause diagnostic) o b i = changed_silent c with_epoch b epoch_silent
carried_silent c (Sending d) o b i = absurd i
carried_silent c (Interrupting octets) o b i = absurd i
carried_silent c (Stopping v) o b i = silent_itself b
carried_silent c Taking o b i = takes_silent c o b
carried_silent c (Releasing n) o b i = changed_silent c (with_released n) b (λ r h. h)
carried_silent c Confirming o b i = silent_itself b

-- ---- writes

abbrev pub WritesSilence : Write → Type 0
WritesSilence (Told notes) = Unit {0}
WritesSilence (Asked o c q f) = IsQuietRequest q
WritesSilence w = ⊥

abbrev pub AllSilent : List Write → Type 0
AllSilent [] = Unit {0}
AllSilent (w ∷ ws) = WritesSilence w × AllSilent ws

refused_silent : (o : Option Refusal) (done b : Book) → Silent b done → Silent b (unless_refused o done b)
refused_silent None done b s = s
refused_silent (Some r) done b s = silent_itself b

write_silent : (w : Write) (b : Book) → WritesSilence w → Silent b (written_by Dce w b)
write_silent (Told notes) b i = all_told_silent notes b
write_silent (Asked o c q f) b i = refused_silent o (carried Dce c q f b) b (carried_silent c q f b i)
write_silent (Placed o parts) b i = absurd i
write_silent (Said o c ds) b i = absurd i
write_silent (Took c t) b i = absurd i
write_silent (Cleared o c) b i = absurd i
write_silent (Edited c step) b i = absurd i
write_silent AllClosed b i = absurd i

pub writes_silent : (ws : List Write) (b : Book) → AllSilent ws → Silent b (all_written Dce ws b)
writes_silent [] b i = silent_itself b
writes_silent (w ∷ ws) b i = silent_then b (written_by Dce w b) (all_written Dce ws (written_by Dce w b)) (write_silent w b i.0) (writes_silent ws (written_by Dce w b) i.1)

-- at the end of a role they are the same in its own sight
pub silent_own : (role : Role) (ws : List Write) (b : Book) → AllSilent ws → Silent b (all_written role ws b)
silent_own role ws b i =
    let x = writes_silent ws (sight role b) i in
    subst (λ (y : Book). Silent b y) (sym (ap (λ (y : Book). all_written role ws y) (sym (sight_back role b)) ∙ written_seen role ws (sight role b)))
    (record { records = x.records; pairs = x.pairs })
