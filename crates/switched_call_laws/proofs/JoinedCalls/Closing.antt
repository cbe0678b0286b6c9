-- A call that is over on one leg is cleared on the other one: its two records rest, and have what was handed on.
use Rattle.std.specs.Prelude.{◌≡◌, ◌≢◌, ℕ, zero, suc, ◌⊎◌, Bool, true, false, not, ◌==◌, if◌then◌else◌, List, [], ◌∷◌, ◌++◌, map, slice_get, Option, Some, None, is_some}
use Rattle.std.proofs.Common.{inl, inr, refl, sym, ap, ap₂, subst, ◌∙◌, true≢false}
use Rattle.std.proofs.lemmas.Option.{none-some}
use Rattle.std.proofs.lemmas.Bool.{eqb-true, eq-eqb}
use Rattle.link_timers.specs.declared.role.Role.{Role}
use Rattle.link_timers.specs.declared.role.Role.TheVariants.{Dte, Dce}
use Rattle.epochs.specs.Epoch.{SentEpoch, TakenEpoch}
use Rattle.data_transfer.specs.Packets.{Note}
use Rattle.data_transfer.specs.Packets.{CallParts}
use Rattle.record_laws.proofs.Books.Writing.{closed_else, slot_changed}
use Rattle.packet_channel.specs.Channel.{ChannelState, Channel, Refusal, refused_if, may_clear, had_call}
use Rattle.packet_channel.specs.Channel.ChannelState.{Ready, OwnWaiting, FarWaiting, Transfer, Collision, OwnClear}
use Rattle.packet_channel.specs.Channel.Request.{Clearing}
use Rattle.packet_layer.specs.Layer.{Layer, channel_of, request_refusal, refusal_at}
use Rattle.call_records.specs.Records.{RecordValue, with_closed, changed_at}
use Rattle.call_records.specs.Book.{Book, Slot, nth_slot, with_nth, slot_at, with_slot, with_change, changed, closes}
use Rattle.call_records.specs.Carried.{unless_refused}
use Rattle.switch_joins.specs.declared.channels.SwitchChannel.{SwitchChannel}
use Rattle.switch_lines.specs.Lines.{SwitchLine, same_place}
use Rattle.switch_laws.specs.Leg.{Leg}
use Rattle.switch_laws.specs.World.{Act, layers_of, shown_at, shown_on}
use Rattle.switch_laws.specs.Joined.{IsOver}
use Rattle.switch_laws.specs.Steps.Step.{Asks}
use Rattle.switched_call_laws.specs.SwitchRecords.Records.{AreApart, AreRecords, call_on, leg_if, Has}
use Rattle.switched_call_laws.specs.SwitchRecords.Written.{Books, writes_at, books_after_all}
use Rattle.switched_call_laws.specs.SwitchRecords.Relayed.{RelayedTo, AreRelayed}
use Rattle.switched_call_laws.specs.SwitchRecords.Rests.{Rests}
use Rattle.switched_call_laws.proofs.SwitchRecords.Cells.{Touches, touches_none, touches_closed, changed_here, changed_else, slot_records, here_or_not}
use Rattle.record_laws.proofs.Books.Basics.{number_is}
use Rattle.switched_call_laws.specs.JoinedCalls.Calls.{present_at, books_by}
use Rattle.switched_call_laws.proofs.JoinedCalls.Steady.{books_rest}
use Rattle.switched_call_laws.proofs.JoinedCalls.Following.{callers_in, CameIn}
use Rattle.switched_call_laws.proofs.JoinedCalls.Walking.{Beside}
use Rattle.switch_joins.proofs.Apart.{decided, apart_by}

-- ---- a record that closes keeps its epochs

pub record SameEpochs (r s : RecordValue) : Type 0 where
  pub sent_before : s.sent_before ≡ r.sent_before
  pub sent : s.sent ≡ r.sent
  pub taken_before : s.taken_before ≡ r.taken_before
  pub taken : s.taken ≡ r.taken

pub epochs_itself : (r : RecordValue) → SameEpochs r r
epochs_itself r = record { sent_before = refl; sent = refl; taken_before = refl; taken = refl }

pub epochs_then : (r s t : RecordValue) → SameEpochs r s → SameEpochs s t → SameEpochs r t
epochs_then r s t a b = record { sent_before = b.sent_before ∙ a.sent_before; sent = b.sent ∙ a.sent; taken_before = b.taken_before ∙ a.taken_before; taken = b.taken ∙ a.taken }

relayed_to_same : (a b a' b' : RecordValue) → SameEpochs a a' → SameEpochs b b' → RelayedTo (a.taken_before ++ a.taken ∷ []) (b.sent_before ++ b.sent ∷ []) → RelayedTo (a'.taken_before ++ a'.taken ∷ []) (b'.sent_before ++ b'.sent ∷ [])
relayed_to_same a b a' b' s t r =
    subst (λ (ts : List TakenEpoch). RelayedTo ts (b'.sent_before ++ b'.sent ∷ [])) (sym (ap₂ (λ (ts : List TakenEpoch) (x : TakenEpoch). ts ++ x ∷ []) s.taken_before s.taken))
    (subst (λ (ss : List SentEpoch). RelayedTo (a.taken_before ++ a.taken ∷ []) ss) (sym (ap₂ (λ (ss : List SentEpoch) (x : SentEpoch). ss ++ x ∷ []) t.sent_before t.sent)) r)

pub relayed_same : (a b a' b' : RecordValue) → SameEpochs a a' → SameEpochs b b' → AreRelayed a b → AreRelayed a' b'
relayed_same a b a' b' s t r = record { there = relayed_to_same a b a' b' s t r.there; back = relayed_to_same b a b' a' t s r.back }

-- ---- one channel closes

nth_closed : (slots : List Slot) (d : ℕ) (z : Slot) → z.present ≡ None → (nth_slot (with_nth slots d z) d).present ≡ None
nth_closed slots zero z e = refl
nth_closed [] (suc i) z e = refl
nth_closed (s ∷ slots) (suc zero) z e = e
nth_closed (s ∷ slots) (suc (suc i)) z e = nth_closed slots (suc i) z e

slot_closed : (d : ℕ) (z : Slot) (b : Book) → z.present ≡ None → (slot_at Dce d (with_slot Dce d z b)).present ≡ None
slot_closed d z b e = nth_closed b.dce.slots d z e

pub closed_none : (d : ℕ) (b : Book) → (slot_at Dce d (closes Dce d b)).present ≡ None
closed_none d b = slot_closed d _ (changed Dce d with_closed b) refl

-- the record that is present there closes
pub record ClosedNow (m : ℕ) (r : RecordValue) (b : Book) : Type 0 where
  pub it : RecordValue
  pub there : slice_get b.records m ≡ Some it
  pub epochs : SameEpochs r it

closing_there : (o : Option ℕ) (m : ℕ) (r : RecordValue) (b : Book) → slice_get b.records m ≡ Some r → ClosedNow m r (with_change o with_closed b)
closing_there None m r b e = record { it = r; there = e; epochs = epochs_itself r }
closing_there (Some n) m r b e =
    elim (number_is m n) [
      | inl is ↦ record { it = with_closed r; there = ap (λ (k : ℕ). slice_get (changed_at n with_closed b.records) k) is ∙ changed_here b.records n with_closed r (sym (ap (λ (k : ℕ). slice_get b.records k) is) ∙ e); epochs = record { sent_before = refl; sent = refl; taken_before = refl; taken = refl } }
      | inr ne ↦ record { it = r; there = changed_else b.records n m with_closed ne ∙ e; epochs = epochs_itself r }
    ]

pub closed_there : (d m : ℕ) (r : RecordValue) (b : Book) → slice_get b.records m ≡ Some r → ClosedNow m r (closes Dce d b)
closed_there d m r b e =
    let c = closing_there (slot_at Dce d b).present m r b e in
    record { it = c.it; there = ap (λ (rs : List RecordValue). slice_get rs m) (slot_records Dce d (record (slot_at Dce d b) { present = None; caller = None }) (changed Dce d with_closed b)) ∙ c.there; epochs = c.epochs }

-- no channel has the record any more
pub closed_absent : (d m : ℕ) (b : Book) → AreApart b → (slot_at Dce d b).present ≡ Some m → (y : Role) (c : ℕ) → (slot_at y c (closes Dce d b)).present ≡ Some m → ⊥
closed_absent d m b a e y c f =
    elim (here_or_not Dce d y c) [
      | inl h ↦ none-some m (sym (closed_none d b) ∙ subst (λ (z : Role). (slot_at z d (closes Dce d b)).present ≡ Some m) h.0 (subst (λ (k : ℕ). (slot_at y k (closes Dce d b)).present ≡ Some m) h.1 f))
      | inr h ↦ h (a.apart y Dce c d m (sym ((touches_closed Dce d b).slots y c h) ∙ f) e)
    ]

-- ---- only one channel of one line is touched

pub if_apart : {X : Type 0} (k n : ℕ) (x y : X) → k ≢ n → (if k == n then x else y) ≡ y
if_apart k n x y ne = by_test (decided (k == n))
  where
    by_test : ((k == n) ≡ true) ⊎ ((k == n) ≡ false) → (if k == n then x else y) ≡ y
    by_test (inl t) = absurd (ne (eqb-true k n t))
    by_test (inr f) = ap (λ (v : Bool). if v then x else y) f

pub record TouchesAt (q : SwitchChannel) (bs bs' : Books) : Type 0 where
  pub line : Touches Dce q.channel (bs q.line) (bs' q.line)
  pub others : (k : ℕ) → k ≢ q.line → bs' k ≡ bs k

abbrev Clears : (cause diagnostic : ℕ) → SwitchChannel → Act
Clears cause diagnostic q = Act.Asks q (Clearing cause diagnostic)

refused_touches : (d : ℕ) (o : Option Refusal) (b : Book) → Touches Dce d b (unless_refused o (closes Dce d b) b)
refused_touches d None b = touches_closed Dce d b
refused_touches d (Some r) b = touches_none Dce d b

line_touches : (cause diagnostic : ℕ) (q : SwitchChannel) (o : Option Layer) (b : Book) → Touches Dce q.channel b (writes_at (Clears cause diagnostic q) o b)
line_touches cause diagnostic q None b = touches_none Dce q.channel b
line_touches cause diagnostic q (Some l) b = refused_touches q.channel (request_refusal l q.channel (Clearing cause diagnostic)) b

pub clear_touches : (cause diagnostic : ℕ) (q : SwitchChannel) (ls : List SwitchLine) (bs : Books) → TouchesAt q bs (books_by (Asks q (Clearing cause diagnostic)) ls bs)
clear_touches cause diagnostic q ls bs = record {
  line = subst (λ (v : Bool). Touches Dce q.channel (bs q.line) (if v then writes_at (Clears cause diagnostic q) (slice_get (layers_of ls) q.line) (bs q.line) else bs q.line)) (sym (eq-eqb q.line q.line refl)) (line_touches cause diagnostic q (slice_get (layers_of ls) q.line) (bs q.line));
  others = λ k ne. if_apart k q.line _ (bs k) ne;
}

-- ---- a channel that has a present record has a call, which can be cleared

clears_call : (s : ChannelState) → had_call s ≡ true → may_clear s ≡ true
clears_call Ready e = e
clears_call OwnWaiting e = refl
clears_call FarWaiting e = refl
clears_call Transfer e = refl
clears_call Collision e = refl
clears_call OwnClear e = e

called : (l : Layer) (c m cause diagnostic : ℕ) (legs : ℕ → Leg) (b : Book) (o : Option Channel) → Has Dce c (call_on o (legs c)) b → (slot_at Dce c b).present ≡ Some m → refusal_at l.role l.flow (Clearing cause diagnostic) o ≡ None
called l c m cause diagnostic legs b None h e = absurd (none-some m (sym h ∙ e))
called l c m cause diagnostic legs b (Some ch) h e = by_call (had_call ch.state) refl h
  where
    by_call : (v : Bool) → had_call ch.state ≡ v → Has Dce c (leg_if v (legs c)) b → refused_if (not (may_clear ch.state)) Refusal.NoCall None ≡ None
    by_call false f x = absurd (none-some m (sym x ∙ e))
    by_call true f x = ap (λ (v : Bool). refused_if (not v) Refusal.NoCall None) (clears_call ch.state f)

-- there is a layer at the line of a channel that is there
layer_at : (ls : List SwitchLine) (q : SwitchChannel) → is_some (shown_at (layers_of ls) q) ≡ true → (l : Layer) × (slice_get (layers_of ls) q.line ≡ Some l)
layer_at ls q e = by_layer (slice_get (layers_of ls) q.line) refl
  where
    by_layer : (o : Option Layer) → slice_get (layers_of ls) q.line ≡ o → (l : Layer) × (slice_get (layers_of ls) q.line ≡ Some l)
    by_layer None f = absurd (true≢false (sym e ∙ ap (λ (o : Option Layer). is_some (shown_on o q.channel)) f))
    by_layer (Some l) f = (l, f)

pub records_at : (ls : List SwitchLine) (bs : Books) (q : SwitchChannel) → Beside ls bs → is_some (shown_at (layers_of ls) q) ≡ true
    → (l : Layer) × ((slice_get (layers_of ls) q.line ≡ Some l) × ((legs : ℕ → Leg) × AreRecords Dce l legs (bs q.line)))
records_at ls bs q b e = let f = layer_at ls q e in (f.0, (f.1, ((λ c. b.legs (record { line = q.line; channel = c })), b.records q.line f.0 f.1)))

pub clear_closes : (cause diagnostic m : ℕ) (q : SwitchChannel) (ls : List SwitchLine) (bs : Books) → Beside ls bs → is_some (shown_at (layers_of ls) q) ≡ true → present_at q bs ≡ Some m
    → books_by (Asks q (Clearing cause diagnostic)) ls bs q.line ≡ closes Dce q.channel (bs q.line)
clear_closes cause diagnostic m q ls bs b there e =
    let f = records_at ls bs q b there in
    ap (λ (v : Bool). if v then writes_at (Clears cause diagnostic q) (slice_get (layers_of ls) q.line) (bs q.line) else bs q.line) (eq-eqb q.line q.line refl)
    ∙ (ap (λ (o : Option Layer). writes_at (Clears cause diagnostic q) o (bs q.line)) f.1.0
    ∙ ap (λ (o : Option Refusal). unless_refused o (closes Dce q.channel (bs q.line)) (bs q.line))
    (called f.0 q.channel m cause diagnostic f.1.1.0 (bs q.line) (channel_of f.0 q.channel) (f.1.1.1.has q.channel) e))

-- ---- one side of a call, while notes of line n are still to be told

abbrev pub IsAbsent : ℕ → Book → Type 0
IsAbsent m b = (y : Role) (c : ℕ) → (slot_at y c b).present ≡ Some m → ⊥

-- its channel is said to be over, and the record is of no present call; or it is not, and the record is the present one
abbrev pub Held : ℕ → List Note → Books → SwitchChannel → ℕ → Type 0
Held n ns bs x m = (IsOver n ns x × IsAbsent m (bs x.line)) ⊎ ((IsOver n ns x → ⊥) × (present_at x bs ≡ Some m))

pub record Side (n : ℕ) (ns : List Note) (bs : Books) (x : SwitchChannel) (m : ℕ) (it : RecordValue) : Type 0 where
  pub there : slice_get (bs x.line).records m ≡ Some it
  pub held : Held n ns bs x m

-- a record elsewhere stays
elsewhere : (q x : SwitchChannel) (m : ℕ) (it : RecordValue) (bs bs' : Books) → same_place x q ≡ false → TouchesAt q bs bs' → AreApart (bs q.line) → slice_get (bs x.line).records m ≡ Some it
    → (IsAbsent m (bs x.line)) ⊎ (present_at x bs ≡ Some m) → slice_get (bs' x.line).records m ≡ Some it
elsewhere q x m it bs bs' f t a there how =
    elim (apart_by x q f) [
      | inl ne ↦ ap (λ (b : Book). slice_get b.records m) (t.others x.line ne) ∙ there
      | inr h ↦
          subst (λ (k : ℕ). slice_get (bs' k).records m ≡ Some it) (sym h.0)
          (t.line.kept m it (subst (λ (k : ℕ). slice_get (bs k).records m ≡ Some it) h.0 there) (λ e. elim how [
            | inl absent ↦ subst (λ (k : ℕ). IsAbsent m (bs k)) h.0 absent Dce q.channel e
            | inr here ↦ h.1 (a.apart Dce Dce x.channel q.channel m (subst (λ (k : ℕ). (slot_at Dce x.channel (bs k)).present ≡ Some m) h.0 here) e).1
          ]))
    ]

slot_elsewhere : (q x : SwitchChannel) (bs bs' : Books) → same_place x q ≡ false → TouchesAt q bs bs' → present_at x bs' ≡ present_at x bs
slot_elsewhere q x bs bs' f t =
    elim (apart_by x q f) [
      | inl ne ↦ ap (λ (b : Book). (slot_at Dce x.channel b).present) (t.others x.line ne)
      | inr h ↦ subst (λ (k : ℕ). (slot_at Dce x.channel (bs' k)).present ≡ (slot_at Dce x.channel (bs k)).present) (sym h.0) (t.line.slots Dce x.channel (λ i. h.1 i.1))
    ]

pub touched_slot : (q x : SwitchChannel) (bs bs' : Books) → same_place x q ≡ false → TouchesAt q bs bs' → present_at x bs' ≡ present_at x bs
touched_slot q x bs bs' f t = slot_elsewhere q x bs bs' f t

-- where clearing q is all that was written, the other sides are as they were
pub side_stays : (n : ℕ) (ns : List Note) (cause diagnostic : ℕ) (q x : SwitchChannel) (m : ℕ) (it : RecordValue) (ls : List SwitchLine) (bs : Books) → same_place x q ≡ false → AreApart (bs q.line) → Side n ns bs x m it
    → Side n ns (books_by (Asks q (Clearing cause diagnostic)) ls bs) x m it
side_stays n ns cause diagnostic q x m it ls bs f a s = record { there = elsewhere q x m it bs bs' f t a s.there how; held = by_held s.held }
  where
    bs' : Books
    bs' = books_by (Asks q (Clearing cause diagnostic)) ls bs

    t : TouchesAt q bs bs'
    t = clear_touches cause diagnostic q ls bs

    how : IsAbsent m (bs x.line) ⊎ (present_at x bs ≡ Some m)
    how = elim s.held [ inl h ↦ inl h.1 | inr h ↦ inr h.1 ]

    by_held : Held n ns bs x m → Held n ns bs' x m
    by_held (inl h) = inl (h.0, (books_rest (Clears cause diagnostic q ∷ []) (layers_of ls) bs x.line m it (record { there = s.there; not_present = h.1 })).not_present)
    by_held (inr h) = inr (h.0, slot_elsewhere q x bs bs' f t ∙ h.1)

-- the side at q rests
pub record RestsWith (bs : Books) (x : SwitchChannel) (m : ℕ) (it : RecordValue) : Type 0 where
  pub now : RecordValue
  pub rests : Rests m now (bs x.line)
  pub epochs : SameEpochs it now

pub side_clears : (n : ℕ) (ns : List Note) (cause diagnostic : ℕ) (q : SwitchChannel) (m : ℕ) (it : RecordValue) (ls : List SwitchLine) (bs : Books) → Beside ls bs → is_some (shown_at (layers_of ls) q) ≡ true → Side n ns bs q m it
    → RestsWith (books_by (Asks q (Clearing cause diagnostic)) ls bs) q m it
side_clears n ns cause diagnostic q m it ls bs b there s = by_held s.held
  where
    bs' : Books
    bs' = books_by (Asks q (Clearing cause diagnostic)) ls bs

    by_held : Held n ns bs q m → RestsWith bs' q m it
    by_held (inl h) = record { now = it; rests = books_rest (Clears cause diagnostic q ∷ []) (layers_of ls) bs q.line m it (record { there = s.there; not_present = h.1 }); epochs = epochs_itself it }
    by_held (inr h) =
        let a = (records_at ls bs q b there).1.1.1.apart in
        let c = closed_there q.channel m it (bs q.line) s.there in
        record {
          now = c.it;
          rests = subst (λ (y : Book). Rests m c.it y) (sym (clear_closes cause diagnostic m q ls bs b there h.1)) (record { there = c.there; not_present = closed_absent q.channel m (bs q.line) a h.1 });
          epochs = c.epochs;
        }

-- a side whose channel is said to be over rests
pub side_rests : (n : ℕ) (ns : List Note) (acts : List Act) (x : SwitchChannel) (m : ℕ) (it : RecordValue) (ls : List SwitchLine) (bs : Books) → IsOver n ns x → Side n ns bs x m it → Rests m it (books_after_all acts (layers_of ls) bs x.line)
side_rests n ns acts x m it ls bs o s = books_rest acts (layers_of ls) bs x.line m it (record { there = s.there; not_present = elim s.held [ inl h ↦ h.1 | inr h ↦ absurd (h.0 o) ] })

-- ---- a call that came in elsewhere

clear_slot : (y : Role) (c d : ℕ) (b : Book) → (y ≡ Dce → c ≢ d) → slot_at y c (closes Dce d b) ≡ slot_at y c b
clear_slot Dce c d b h = closed_else Dce d b c (h refl)
clear_slot Dte c d b h = slot_changed Dte c (slot_at Dce d b).present with_closed b

refused_slot : (y : Role) (c d : ℕ) (o : Option Refusal) (b : Book) → (y ≡ Dce → c ≢ d) → slot_at y c (unless_refused o (closes Dce d b) b) ≡ slot_at y c b
refused_slot y c d None b h = clear_slot y c d b h
refused_slot y c d (Some r) b h = refl

line_slot : (cause diagnostic : ℕ) (y : Role) (c : ℕ) (q : SwitchChannel) (o : Option Layer) (b : Book) → (y ≡ Dce → c ≢ q.channel) → slot_at y c (writes_at (Clears cause diagnostic q) o b) ≡ slot_at y c b
line_slot cause diagnostic y c q None b h = refl
line_slot cause diagnostic y c q (Some l) b h = refused_slot y c q.channel (request_refusal l q.channel (Clearing cause diagnostic)) b h

cleared_slot : (cause diagnostic : ℕ) (y : Role) (q x : SwitchChannel) (ls : List SwitchLine) (bs : Books) → same_place x q ≡ false → slot_at y x.channel (books_by (Asks q (Clearing cause diagnostic)) ls bs x.line) ≡ slot_at y x.channel (bs x.line)
cleared_slot cause diagnostic y q x ls bs f =
    elim (apart_by x q f) [
      | inl ne ↦ ap (λ (b : Book). slot_at y x.channel b) ((clear_touches cause diagnostic q ls bs).others x.line ne)
      | inr h ↦
          ap (λ (v : Bool). slot_at y x.channel (if v then writes_at (Clears cause diagnostic q) (slice_get (layers_of ls) x.line) (bs x.line) else bs x.line)) (eq-eqb x.line q.line h.0)
          ∙ line_slot cause diagnostic y x.channel q (slice_get (layers_of ls) x.line) (bs x.line) (λ e. h.1)
    ]

-- no record changes whom it came from
callers_closed : (rs : List RecordValue) (n : ℕ) → map (λ r. r.caller) (changed_at n with_closed rs) ≡ map (λ r. r.caller) rs
callers_closed [] n = refl
callers_closed (r ∷ rs) zero = refl
callers_closed (r ∷ rs) (suc n) = ap (λ (cs : List (Option ℕ)). r.caller ∷ cs) (callers_closed rs n)

callers_change : (o : Option ℕ) (b : Book) → callers_in (with_change o with_closed b) ≡ callers_in b
callers_change None b = refl
callers_change (Some n) b = callers_closed b.records n

clear_callers : (d : ℕ) (b : Book) → callers_in (closes Dce d b) ≡ callers_in b
clear_callers d b =
    ap (λ (rs : List RecordValue). map (λ r. r.caller) rs) (slot_records Dce d (record (slot_at Dce d b) { present = None; caller = None }) (changed Dce d with_closed b))
    ∙ callers_change (slot_at Dce d b).present b

refused_callers : (d : ℕ) (o : Option Refusal) (b : Book) → callers_in (unless_refused o (closes Dce d b) b) ≡ callers_in b
refused_callers d None b = clear_callers d b
refused_callers d (Some r) b = refl

line_callers : (cause diagnostic : ℕ) (q : SwitchChannel) (o : Option Layer) (b : Book) → callers_in (writes_at (Clears cause diagnostic q) o b) ≡ callers_in b
line_callers cause diagnostic q None b = refl
line_callers cause diagnostic q (Some l) b = refused_callers q.channel (request_refusal l q.channel (Clearing cause diagnostic)) b

cleared_callers : (cause diagnostic : ℕ) (q : SwitchChannel) (n : ℕ) (ls : List SwitchLine) (bs : Books) → callers_in (books_by (Asks q (Clearing cause diagnostic)) ls bs n) ≡ callers_in (bs n)
cleared_callers cause diagnostic q n ls bs = by_test (n == q.line)
  where
    by_test : (v : Bool) → callers_in (if v then writes_at (Clears cause diagnostic q) (slice_get (layers_of ls) n) (bs n) else bs n) ≡ callers_in (bs n)
    by_test true = line_callers cause diagnostic q (slice_get (layers_of ls) n) (bs n)
    by_test false = refl

pub came_stays : (cause diagnostic : ℕ) (q x : SwitchChannel) (parts : CallParts) (ls : List SwitchLine) (bs : Books) → same_place x q ≡ false → AreApart (bs q.line) → CameIn x parts bs → CameIn x parts (books_by (Asks q (Clearing cause diagnostic)) ls bs)
came_stays cause diagnostic q x parts ls bs f a i = record {
  number = i.number;
  caller = i.caller;
  present = ap (λ (s : Slot). s.present) (cleared_slot cause diagnostic Dce q x ls bs f) ∙ i.present;
  came = ap (λ (s : Slot). s.caller) (cleared_slot cause diagnostic Dce q x ls bs f) ∙ i.came;
  last = ap (λ (s : Slot). s.placed) (cleared_slot cause diagnostic Dte q x ls bs f) ∙ i.last;
  it = i.it;
  there = elsewhere q x i.number i.it bs (books_by (Asks q (Clearing cause diagnostic)) ls bs) f (clear_touches cause diagnostic q ls bs) a i.there (inr i.present);
  own = i.own;
  far = i.far;
  alone = λ m e. i.alone m (ap (λ (cs : List (Option ℕ)). slice_get cs m) (sym (cleared_callers cause diagnostic q x.line ls bs)) ∙ e);
}
