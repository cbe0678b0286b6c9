-- Which records are open and present on a channel, after each kind of change to a book.
use Rattle.std.specs.Prelude.{◌≡◌, ℕ, ◌<◌, ◌⊎◌, true, false, List, [], ◌∷◌, ◌++◌, length, slice_get, Some, None}
use Rattle.std.proofs.Common.{inl, inr, sym, ap, subst, ◌∙◌, arith, true≢false}
use Rattle.std.proofs.lemmas.Option.{none-some, same_Some, slice_get_within}
use Rattle.link_timers.specs.declared.role.Role.{Role}
use Rattle.call_records.specs.Records.{RecordValue}
use Rattle.call_records.specs.Book.{Slot}
use Rattle.record_laws.proofs.Books.Basics.{is_role, number_is, get_pushed}
use Rattle.record_laws.proofs.Books.Invariant.{EndView, CallStatus, Tag, IsSomewhere, AreOpen, Present, SlotIs}
use Rattle.record_laws.proofs.Books.Invariant.CallStatus.{Idle, OwnCall, FarCall, Open}

-- ---- places

at_place : (x y : Role) (c d : ℕ) → ((y ≡ x) × (d ≡ c)) ⊎ ((y ≡ x) × (d ≡ c) → ⊥)
at_place x y c d =
    elim (is_role x y) [
      | inl e ↦ elim (number_is d c) [
        | inl h ↦ inl (e, h)
        | inr h ↦ inr (λ p. h p.1)
      ]
      | inr e ↦ inr (λ p. e p.0)
    ]

moved_to : (slots : Role → ℕ → Slot) (x y : Role) (c d n : ℕ) → (y ≡ x) × (d ≡ c) → (slots y d).present ≡ Some n → (slots x c).present ≡ Some n
moved_to slots x y c d n at e = subst (λ (z : Role). (slots z c).present ≡ Some n) at.0 (subst (λ (k : ℕ). (slots y k).present ≡ Some n) at.1 e)

-- the present record of a channel
pub present_in : (m : CallStatus) (f : EndView) (tags : List Tag) (x : Role) (c : ℕ) (slot : Slot) (n : ℕ) → SlotIs m f tags x c slot → slot.present ≡ Some n → (p : Present f tags x c slot) × (slice_get tags n ≡ Some p.tag)
present_in Idle f tags x c slot n w e = absurd (none-some n (sym w ∙ e))
present_in OwnCall f tags x c slot n w e = (w.0, ap (λ (k : ℕ). slice_get tags k) (same_Some n w.0.number (sym e ∙ w.0.is_present)) ∙ w.0.there)
present_in FarCall f tags x c slot n w e = (w.0, ap (λ (k : ℕ). slice_get tags k) (same_Some n w.0.number (sym e ∙ w.0.is_present)) ∙ w.0.there)
present_in Open f tags x c slot n w e = (w.0, ap (λ (k : ℕ). slice_get tags k) (same_Some n w.0.number (sym e ∙ w.0.is_present)) ∙ w.0.there)

-- ---- changes

-- records change, and none is closed
pub kept_open : (slots : Role → ℕ → Slot) (rs rs' : List RecordValue)
    → ((n : ℕ) (r' : RecordValue) → slice_get rs' n ≡ Some r' → (r : RecordValue) × (slice_get rs n ≡ Some r) × (r'.closed ≡ r.closed))
    → AreOpen slots rs → AreOpen slots rs'
kept_open slots rs rs' kept w = record {
  somewhere = λ n r e op. let k = kept n r e in w.somewhere n k.0 k.1 (sym k.2 ∙ op);
  is_open = λ x c n r e there. let k = kept n r there in k.2 ∙ w.is_open x c n k.0 e k.1;
  one_place = w.one_place;
}

-- the channels are the same ones
pub moved_open : (slots slots' : Role → ℕ → Slot) (rs : List RecordValue) → ((x : Role) (c : ℕ) → slots' x c ≡ slots x c) → AreOpen slots rs → AreOpen slots' rs
moved_open slots slots' rs same w = record {
  somewhere = λ n r e op. let s = w.somewhere n r e op in (s.0, s.1, ap (λ (z : Slot). z.present) (same s.0 s.1) ∙ s.2);
  is_open = λ x c n r e there. w.is_open x c n r (ap (λ (z : Slot). z.present) (sym (same x c)) ∙ e) there;
  one_place = λ x y c d n e g. w.one_place x y c d n (ap (λ (z : Slot). z.present) (sym (same x c)) ∙ e) (ap (λ (z : Slot). z.present) (sym (same y d)) ∙ g);
}

-- the call on a channel is closed
module _ (x : Role) (d : ℕ) (slots slots' : Role → ℕ → Slot) (rs rs' : List RecordValue) (none : (slots' x d).present ≡ None)
    (else : (y : Role) (c : ℕ) → ((y ≡ x) × (c ≡ d) → ⊥) → slots' y c ≡ slots y c)
    (kept : (n : ℕ) (r' : RecordValue) → slice_get rs' n ≡ Some r'
    → (r : RecordValue) × (slice_get rs n ≡ Some r) × ((((slots x d).present ≡ Some n) × (r'.closed ≡ true)) ⊎ (((slots x d).present ≡ Some n → ⊥) × (r'.closed ≡ r.closed))))
    (w : AreOpen slots rs) where
  -- a channel that has a record after it is another one, and had it before
  before : (y : Role) (c n : ℕ) → (slots' y c).present ≡ Some n → ((slots y c).present ≡ Some n) × ((y ≡ x) × (c ≡ d) → ⊥)
  before y c n e =
      elim (at_place x y d c) [
        | inl at ↦ absurd (none-some n (sym none ∙ moved_to slots' x y d c n at e))
        | inr apart ↦ (ap (λ (z : Slot). z.present) (sym (else y c apart)) ∙ e, apart)
      ]

  still_somewhere : (n : ℕ) → ((slots x d).present ≡ Some n → ⊥) → IsSomewhere slots n → IsSomewhere slots' n
  still_somewhere n other s =
      elim (at_place x s.0 d s.1) [
        | inl at ↦ absurd (other (moved_to slots x s.0 d s.1 n at s.2))
        | inr apart ↦ (s.0, s.1, ap (λ (z : Slot). z.present) (else s.0 s.1 apart) ∙ s.2)
      ]

  closed_somewhere : (n : ℕ) (r' : RecordValue) → slice_get rs' n ≡ Some r' → r'.closed ≡ false → IsSomewhere slots' n
  closed_somewhere n r' e op =
      let k = kept n r' e in
      elim k.2 [
        | inl h ↦ absurd (true≢false (sym h.1 ∙ op))
        | inr h ↦ still_somewhere n h.0 (w.somewhere n k.0 k.1 (sym h.1 ∙ op))
      ]

  closed_is_open : (y : Role) (c n : ℕ) (r' : RecordValue) → (slots' y c).present ≡ Some n → slice_get rs' n ≡ Some r' → r'.closed ≡ false
  closed_is_open y c n r' e there =
      let k = kept n r' there in
      let b = before y c n e in
      elim k.2 [
        | inl h ↦ absurd (b.1 (w.one_place y x c d n b.0 h.0))
        | inr h ↦ h.1 ∙ w.is_open y c n k.0 b.0 k.1
      ]

  pub closing_open : AreOpen slots' rs'
  closing_open = record {
    somewhere = closed_somewhere;
    is_open = closed_is_open;
    one_place = λ y z c e n p q. w.one_place y z c e n (before y c n p).0 (before z e n q).0;
  }

-- an open record is added, and is present on a channel that was free
module _ (x : Role) (c : ℕ) (slots slots' : Role → ℕ → Slot) (rs : List RecordValue) (r0 : RecordValue) (free : (slots x c).present ≡ None) (present : (slots' x c).present ≡ Some (length rs))
    (else : (y : Role) (d : ℕ) → ((y ≡ x) × (d ≡ c) → ⊥) → slots' y d ≡ slots y d) (new : r0.closed ≡ false)
    (within : (y : Role) (d n : ℕ) → (slots y d).present ≡ Some n → n < length rs) (w : AreOpen slots rs) where
  had : (y : Role) (d n : ℕ) → (slots' y d).present ≡ Some n → ((n ≡ length rs) × (y ≡ x) × (d ≡ c)) ⊎ ((slots y d).present ≡ Some n)
  had y d n e =
      elim (at_place x y c d) [
        | inl at ↦ inl (same_Some n (length rs) (sym (moved_to slots' x y c d n at e) ∙ present), at.0, at.1)
        | inr apart ↦ inr (ap (λ (z : Slot). z.present) (sym (else y d apart)) ∙ e)
      ]

  has_still : (n : ℕ) → IsSomewhere slots n → IsSomewhere slots' n
  has_still n s =
      elim (at_place x s.0 c s.1) [
        | inl at ↦ absurd (none-some n (sym free ∙ moved_to slots x s.0 c s.1 n at s.2))
        | inr apart ↦ (s.0, s.1, ap (λ (z : Slot). z.present) (else s.0 s.1 apart) ∙ s.2)
      ]

  never_last : (y : Role) (d n : ℕ) → (slots y d).present ≡ Some n → n ≡ length rs → ⊥
  never_last y d n e is = let h = within y d n e in omega arith

  more_is_open : (y : Role) (d n : ℕ) (r : RecordValue) → (slots' y d).present ≡ Some n → slice_get (rs ++ r0 ∷ []) n ≡ Some r → r.closed ≡ false
  more_is_open y d n r e there =
      elim (get_pushed rs r0 n r there) [
        | inl h ↦ elim (had y d n e) [
          | inl a ↦ absurd (last_absent n r a.0 h)
          | inr a ↦ w.is_open y d n r a h
        ]
        | inr h ↦ ap (λ (z : RecordValue). z.closed) h.1 ∙ new
      ]
    where
      last_absent : (n : ℕ) (r : RecordValue) → n ≡ length rs → slice_get rs n ≡ Some r → ⊥
      last_absent n r is got = let h = slice_get_within rs n r got in omega arith

  pub more_open : AreOpen slots' (rs ++ r0 ∷ [])
  more_open = record {
    somewhere = λ n r e op. elim (get_pushed rs r0 n r e) [
      | inl h ↦ has_still n (w.somewhere n r h op)
      | inr h ↦ (x, c, present ∙ ap (λ (k : ℕ). Some k) (sym h.0))
    ];
    is_open = more_is_open;
    one_place = λ y z d e n p q. elim (had y d n p) [
      | inl a ↦ elim (had z e n q) [
        | inl k ↦ (a.1 ∙ sym k.1, a.2 ∙ sym k.2)
        | inr k ↦ absurd (never_last z e n k a.0)
      ]
      | inr a ↦ elim (had z e n q) [
        | inl k ↦ absurd (never_last y d n a k.0)
        | inr k ↦ w.one_place y z d e n a k
      ]
    ];
  }
