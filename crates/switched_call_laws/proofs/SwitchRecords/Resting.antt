-- Records that are of no present call stay as they are.
use Rattle.std.specs.Prelude.{◌≡◌, ℕ, Bool, true, false, cond, if◌then◌else◌, ◌==◌, List, [], ◌∷◌, slice_get, Option, Some, None}
use Rattle.std.proofs.Common.{refl, inl, inr, sym, subst, ◌∙◌, arith}
use Rattle.link_timers.specs.declared.role.Role.{Role}
use Rattle.link_timers.specs.declared.role.Role.TheVariants.{Dce}
use Rattle.data_transfer.specs.Packets.{Note}
use Rattle.packet_channel.specs.Channel.{Channel, Request, Refusal}
use Rattle.packet_channel.specs.Channel.Request.{Releasing}
use Rattle.packet_layer.specs.Layer.{Layer, channel_of, channel_given, front_at, request_refusal}
use Rattle.call_records.specs.Records.{RecordValue}
use Rattle.call_records.specs.Book.{Book, slot_at, told, all_told}
use Rattle.call_records.specs.Carried.{carried, unless_refused}
use Rattle.switch_laws.specs.World.{Act, line_of, after_act}
use Rattle.switch_laws.specs.Joined.{notes_made}
use Rattle.call_records.specs.Writes.{Write, written_by, all_written}
use Rattle.switched_call_laws.specs.SwitchRecords.Written.{asked_writes, may_release_on, request_writes, writes, writes_at, books_after}
use Rattle.switched_call_laws.specs.SwitchRecords.Rests.{Rests}
use Rattle.switched_call_laws.specs.SwitchRecords.SwitchRecordLaws.{RestLaw, RestsLaw, WritesLaw}
use Rattle.switched_call_laws.proofs.SwitchRecords.Cells.{Touches, got_below, here_or_not}
use Rattle.switched_call_laws.proofs.SwitchRecords.Notes.{told_touches}
use Rattle.switched_call_laws.proofs.SwitchRecords.Partner.{carried_touches, placed_touches, writes_keep}

rests : (x : Role) (d n : ℕ) (r : RecordValue) (b b' : Book) → Touches x d b b' → Rests n r b → Rests n r b'
rests x d n r b b' t i = record { there = t.kept n r i.there (i.not_present x d); not_present = not_present }
  where
    not_present : (y : Role) (c : ℕ) → (slot_at y c b').present ≡ Some n → ⊥
    not_present y c e =
        elim (here_or_not x d y c) [
          | inl h ↦ elim (t.here n (subst (λ (z : Role). (slot_at z d b').present ≡ Some n) h.0 (subst (λ (k : ℕ). (slot_at y k b').present ≡ Some n) h.1 e))) [
            | inl f ↦ i.not_present x d f
            | inr new ↦ (let p = new.0 in let q = got_below b.records n r i.there in absurd (omega arith))
          ]
          | inr h ↦ i.not_present y c (sym (t.slots y c h) ∙ e)
        ]

told_rests : (x : Role) (notes : List Note) (n : ℕ) (r : RecordValue) (b : Book) → Rests n r b → Rests n r (all_told x notes b)
told_rests x [] n r b i = i
told_rests x (note ∷ notes) n r b i = let t = told_touches x note b in told_rests x notes n r (told x note b) (rests x t.channel n r b (told x note b) t.touches i)

asked_rests : (x : Role) (o : Option Refusal) (n : ℕ) (r : RecordValue) (b b' : Book) → (Rests n r b → Rests n r b') → Rests n r b → Rests n r (unless_refused o b' b)
asked_rests x None n r b b' f i = f i
asked_rests x (Some y) n r b b' f i = i

carried_rests : (x : Role) (c : ℕ) (q : Request) (o : Option Channel) (n : ℕ) (r : RecordValue) (b : Book) → Rests n r b → Rests n r (carried x c q (front_at o) b)
carried_rests x c q o n r b i = rests x c n r b (carried x c q (front_at o) b) (carried_touches x c q (front_at o) b) i

requests_rest : (x : Role) (c : ℕ) (q : Request) (o : Option Channel) (n : ℕ) (r : RecordValue) (b : Book) → Rests n r b → Rests n r (request_writes x c q o b)
requests_rest x c (Releasing k) o n r b i = by_room (may_release_on o k)
  where
    by_room : (v : Bool) → Rests n r (cond v (carried x c (Releasing k) (front_at o) b) b)
    by_room true = carried_rests x c (Releasing k) o n r b i
    by_room false = i
requests_rest x c q o n r b i = carried_rests x c q o n r b i

pub event_rests : RestLaw
event_rests x ws n r b i = writes_keep (λ (y : Book). Rests n r y) x (λ y y' t h. rests x t.channel n r y y' t.touches h) ws b i

act_rests : (x : Role) (a : Act) (l : Layer) (n : ℕ) (r : RecordValue) (b : Book) → Rests n r b → Rests n r (writes x a l b)
act_rests x (Act.Asks p q) l n r b i = asked_rests x (request_refusal l p.channel q) n r b (request_writes x p.channel q (channel_of l p.channel) b) (λ j. requests_rest x p.channel q (channel_of l p.channel) n r b j) i
act_rests x (Act.Calls k parts) l n r b i = let t = placed_touches x (channel_given l l.phase) parts b in rests x t.channel n r b _ t.touches i
act_rests x (Act.Comes k y) l n r b i = told_rests x (notes_made (Act.Comes k y) (Some l)) n r b i
act_rests x (Act.Expires k t) l n r b i = told_rests x (notes_made (Act.Expires k t) (Some l)) n r b i
act_rests x (Act.GoesUp k) l n r b i = told_rests x (notes_made (Act.GoesUp k) (Some l)) n r b i
act_rests x (Act.GoesDown k) l n r b i = told_rests x (notes_made (Act.GoesDown k) (Some l)) n r b i
act_rests x (Act.Gives k) l n r b i = i
act_rests x (Act.Reads k) l n r b i = i

at_rests : (a : Act) (o : Option Layer) (n : ℕ) (r : RecordValue) (b : Book) → Rests n r b → Rests n r (writes_at a o b)
at_rests a None n r b i = i
at_rests a (Some l) n r b i = act_rests Dce a l n r b i

one_rests : (a : Act) (v : Bool) (o : Option Layer) (n : ℕ) (r : RecordValue) (b : Book) → Rests n r b → Rests n r (if v then writes_at a o b else b)
one_rests a true o n r b i = at_rests a o n r b i
one_rests a false o n r b i = i

pub acts_rest : RestsLaw
acts_rest [] ys bs line n r i = i
acts_rest (a ∷ more) ys bs line n r i = acts_rest more (after_act a ys) (books_after a ys bs) line n r (one_rests a (line == line_of a) (slice_get ys line) n r (bs line) i)

-- ---- as a list of writes

releases_as : (x : Role) (c k : ℕ) (v : Bool) (o : Option Refusal) (done b : Book) (w : Write) → unless_refused o done b ≡ written_by x w b → unless_refused o (cond v done b) b ≡ all_written x (if v then w ∷ [] else []) b
releases_as x c k true o done b w e = e
releases_as x c k false None done b w e = refl
releases_as x c k false (Some r) done b w e = refl

asks_as : (x : Role) (c : ℕ) (q : Request) (l : Layer) (b : Book) → unless_refused (request_refusal l c q) (request_writes x c q (channel_of l c) b) b ≡ all_written x (asked_writes c q l) b
asks_as x c (Releasing k) l b =
    releases_as x c k (may_release_on (channel_of l c) k) (request_refusal l c (Releasing k)) (carried x c (Releasing k) (front_at (channel_of l c)) b) b
    (Write.Asked (request_refusal l c (Releasing k)) c (Releasing k) (front_at (channel_of l c))) refl
asks_as x c Request.Accept l b = refl
asks_as x c (Request.Clearing cause diagnostic) l b = refl
asks_as x c (Request.Resetting cause diagnostic) l b = refl
asks_as x c (Request.Sending d) l b = refl
asks_as x c (Request.Interrupting octets) l b = refl
asks_as x c (Request.Stopping v) l b = refl
asks_as x c Request.Taking l b = refl
asks_as x c Request.Confirming l b = refl

pub act_writes_are : WritesLaw
act_writes_are x (Act.Asks p q) l b = asks_as x p.channel q l b
act_writes_are x (Act.Calls k parts) l b = refl
act_writes_are x (Act.Comes k y) l b = refl
act_writes_are x (Act.Expires k t) l b = refl
act_writes_are x (Act.GoesUp k) l b = refl
act_writes_are x (Act.GoesDown k) l b = refl
act_writes_are x (Act.Gives k) l b = refl
act_writes_are x (Act.Reads k) l b = refl
