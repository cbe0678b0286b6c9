-- What is written at one channel of an end leaves the present records of all others.
use Rattle.std.specs.Prelude.{◌≡◌, ◌≢◌, ℕ, zero, suc, ◌<◌, ◌≤◌, ◌⊎◌, List, [], ◌∷◌, ◌++◌, length, slice_get, Option, Some, None}
use Rattle.std.proofs.Common.{inl, inr, refl, sym, ap, subst, ◌∙◌, arith}
use Rattle.std.proofs.lemmas.Option.{none-some, same_Some}
use Rattle.link_timers.specs.declared.role.Role.{Role}
use Rattle.link_timers.specs.declared.role.Role.TheVariants.{Dte, Dce}
use Rattle.call_records.specs.Records.{RecordValue, PairValue, with_closed, changed_at}
use Rattle.call_records.specs.Book.{Book, Slot, side_of, nth_slot, with_nth, slot_at, with_slot, with_change, changed, with_record, closes, with_pair, answers}
use Rattle.record_laws.proofs.Books.Basics.{get_before, get_last, length_changed, length_pushed, number_is, is_role, role_is}
use Rattle.record_laws.proofs.Books.Writing.{slot_here, slot_else, slot_there, slot_changed, size_slot, size_changed, size_record}
use Rattle.switch_laws.specs.Leg.{Leg}
use Rattle.switched_call_laws.specs.SwitchRecords.Records.{IsRecordOf, HasRecord, AreApart, Has}

-- ---- lists

pub got_below : {X : Type 0} (xs : List X) (n : ℕ) (x : X) → slice_get xs n ≡ Some x → n < length xs
got_below [] n x e = absurd (none-some x e)
got_below (y ∷ xs) zero x e = omega arith
got_below (y ∷ xs) (suc n) x e = let h = got_below xs n x e in omega arith

pub changed_here : (rs : List RecordValue) (n : ℕ) (f : RecordValue → RecordValue) (r : RecordValue) → slice_get rs n ≡ Some r → slice_get (changed_at n f rs) n ≡ Some (f r)
changed_here [] n f r e = absurd (none-some r e)
changed_here (s ∷ rs) zero f r e = ap (λ (x : RecordValue). Some (f x)) (same_Some s r e)
changed_here (s ∷ rs) (suc n) f r e = changed_here rs n f r e

pub changed_else : (rs : List RecordValue) (m n : ℕ) (f : RecordValue → RecordValue) → n ≢ m → slice_get (changed_at m f rs) n ≡ slice_get rs n
changed_else [] m n f h = refl
changed_else (s ∷ rs) zero zero f h = absurd (h refl)
changed_else (s ∷ rs) zero (suc n) f h = refl
changed_else (s ∷ rs) (suc m) zero f h = refl
changed_else (s ∷ rs) (suc m) (suc n) f h = changed_else rs m n f (λ e. h (ap suc e))

-- ---- one channel

abbrev pub IsHere : Role → ℕ → Role → ℕ → Type 0
IsHere x d y c = (y ≡ x) × (c ≡ d)

pub here_or_not : (x : Role) (d : ℕ) (y : Role) (c : ℕ) → IsHere x d y c ⊎ (IsHere x d y c → ⊥)
here_or_not x d y c =
    elim (is_role x y) [
      | inl e ↦ elim (number_is c d) [ inl h ↦ inl (e, h) | inr h ↦ inr (λ q. h q.1) ]
      | inr e ↦ inr (λ q. e q.0)
    ]

-- only what belongs to channel d at the end x may differ, and a record that becomes present there is a new one; pairs
-- stay, and a new one is of a call that came in there
pub record Touches (x : Role) (d : ℕ) (b b' : Book) : Type 0 where
  pub slots : (y : Role) (c : ℕ) → (IsHere x d y c → ⊥) → (slot_at y c b').present ≡ (slot_at y c b).present
  pub size : (y : Role) → length (side_of y b').slots ≡ length (side_of y b).slots
  pub count : length b.records ≤ length b'.records
  pub kept : (n : ℕ) (r : RecordValue) → slice_get b.records n ≡ Some r → ((slot_at x d b).present ≡ Some n → ⊥) → slice_get b'.records n ≡ Some r
  pub here : (n : ℕ) → (slot_at x d b').present ≡ Some n → ((slot_at x d b).present ≡ Some n) ⊎ ((length b.records ≤ n) × (n < length b'.records))
  pub pairs : (i : ℕ) (p : PairValue) → slice_get b.pairs i ≡ Some p → slice_get b'.pairs i ≡ Some p
  pub paired : (i : ℕ) (p : PairValue) → slice_get b'.pairs i ≡ Some p → (slice_get b.pairs i ≡ Some p) ⊎ (((slot_at x d b).present ≡ Some p.callee) ⊎ (length b.records ≤ p.callee))

-- where the pairs are the same
same_pairs : (b b' : Book) (i : ℕ) (p : PairValue) → b'.pairs ≡ b.pairs → slice_get b.pairs i ≡ Some p → slice_get b'.pairs i ≡ Some p
same_pairs b b' i p e f = ap (λ (ps : List PairValue). slice_get ps i) e ∙ f

pub touches_none : (x : Role) (d : ℕ) (b : Book) → Touches x d b b
touches_none x d b = record { slots = λ y c h. refl; size = λ y. refl; count = omega arith; kept = λ n r e h. e; here = λ n e. inl e; pairs = λ i p e. e; paired = λ i p e. inl e }

pub touches_then : (x : Role) (d : ℕ) (a b c : Book) → Touches x d a b → Touches x d b c → Touches x d a c
touches_then x d a b c s t = record {
  slots = λ y k h. t.slots y k h ∙ s.slots y k h;
  size = λ y. t.size y ∙ s.size y;
  count = let p = s.count in let q = t.count in omega arith;
  kept = λ n r e h. t.kept n r (s.kept n r e h) (λ f. elim (s.here n f) [ inl same ↦ h same | inr new ↦ (let p = new.0 in let q = got_below a.records n r e in absurd (omega arith)) ]);
  here = λ n e. elim (t.here n e) [
    | inl f ↦ elim (s.here n f) [
      | inl g ↦ inl g
      | inr new ↦ inr (new.0, (let p = new.1 in let q = t.count in omega arith))
    ]
    | inr new ↦ inr ((let p = new.0 in let q = s.count in omega arith), new.1)
  ];
  pairs = λ i p e. t.pairs i p (s.pairs i p e);
  paired = λ i p e. elim (t.paired i p e) [
    | inl f ↦ s.paired i p f
    | inr f ↦ inr (elim f [
      | inl g ↦ elim (s.here p.callee g) [ inl old ↦ inl old | inr new ↦ inr new.0 ]
      | inr new ↦ inr (let q = s.count in omega arith)
    ])
  ];
}

pub apart_after : (x : Role) (d : ℕ) (b b' : Book) → Touches x d b b' → AreApart b → AreApart b'
apart_after x d b b' t a = record { there = there; apart = apart }
  where
    there : (y : Role) (c n : ℕ) → (slot_at y c b').present ≡ Some n → n < length b'.records
    there y c n e =
        elim (here_or_not x d y c) [
          | inl h ↦ elim (t.here n (subst (λ (z : Role). (slot_at z d b').present ≡ Some n) h.0 (subst (λ (k : ℕ). (slot_at y k b').present ≡ Some n) h.1 e))) [
            | inl f ↦ (let p = a.there x d n f in let q = t.count in omega arith)
            | inr new ↦ new.1
          ]
          | inr h ↦ (let p = a.there y c n (sym (t.slots y c h) ∙ e) in let q = t.count in omega arith)
        ]

    -- the record of a channel elsewhere is not that of this one
    differs : (y : Role) (c n : ℕ) → (IsHere x d y c → ⊥) → (slot_at y c b').present ≡ Some n → (slot_at x d b').present ≡ Some n → ⊥
    differs y c n h e f =
        let old = sym (t.slots y c h) ∙ e in
        elim (t.here n f) [
          | inl same ↦ h (a.apart y x c d n old same)
          | inr new ↦ (let p = new.0 in let q = a.there y c n old in absurd (omega arith))
        ]

    is_here : (y : Role) (c n : ℕ) → IsHere x d y c → (slot_at y c b').present ≡ Some n → (slot_at x d b').present ≡ Some n
    is_here y c n h e = subst (λ (z : Role). (slot_at z d b').present ≡ Some n) h.0 (subst (λ (k : ℕ). (slot_at y k b').present ≡ Some n) h.1 e)

    apart : (y z : Role) (c k n : ℕ) → (slot_at y c b').present ≡ Some n → (slot_at z k b').present ≡ Some n → (y ≡ z) × (c ≡ k)
    apart y z c k n e f =
        elim (here_or_not x d y c) [
          | inl h ↦ elim (here_or_not x d z k) [
            | inl i ↦ (h.0 ∙ sym i.0, h.1 ∙ sym i.1)
            | inr i ↦ absurd (differs z k n i f (is_here y c n h e))
          ]
          | inr h ↦ elim (here_or_not x d z k) [
            | inl i ↦ absurd (differs y c n h e (is_here z k n i f))
            | inr i ↦ a.apart y z c k n (sym (t.slots y c h) ∙ e) (sym (t.slots z k i) ∙ f)
          ]
        ]

pub has_elsewhere : (x : Role) (d : ℕ) (b b' : Book) (y : Role) (c : ℕ) (o : Option Leg) → Touches x d b b' → AreApart b → (IsHere x d y c → ⊥) → Has y c o b → Has y c o b'
has_elsewhere x d b b' y c None t a h p = t.slots y c h ∙ p
has_elsewhere x d b b' y c (Some g) t a h p = record {
  number = p.number;
  present = t.slots y c h ∙ p.present;
  it = p.it;
  there = t.kept p.number p.it p.there (λ e. h (a.apart y x c d p.number p.present e));
  is_of = p.is_of;
}

-- ---- a record changes

changes_by : (x : Role) (d : ℕ) (f : RecordValue → RecordValue) (b : Book) (o : Option ℕ) → (slot_at x d b).present ≡ o → Touches x d b (with_change o f b)
changes_by x d f b None e = touches_none x d b
changes_by x d f b (Some m) e = record {
  slots = λ y c h. ap (λ (s : Slot). s.present) (slot_changed y c (Some m) f b);
  size = λ y. (size_changed (Some m) f b).size y;
  count = let p = length_changed b.records m f in omega arith;
  kept = λ n r g h. changed_else b.records m n f (λ i. h (e ∙ ap (λ (k : ℕ). Some k) (sym i))) ∙ g;
  here = λ n g. inl (sym (ap (λ (s : Slot). s.present) (slot_changed x d (Some m) f b)) ∙ g);
  pairs = λ i p g. g;
  paired = λ i p g. inl g;
}

pub changes : (x : Role) (d : ℕ) (f : RecordValue → RecordValue) (b : Book) → Touches x d b (changed x d f b)
changes x d f b = changes_by x d f b (slot_at x d b).present refl

pub has_changed : (x : Role) (d : ℕ) (f : RecordValue → RecordValue) (b : Book) (g g' : Leg) → ((r : RecordValue) → IsRecordOf g r → IsRecordOf g' (f r)) → HasRecord x d g b → HasRecord x d g' (changed x d f b)
has_changed x d f b g g' grows h =
    subst (λ (o : Option ℕ). HasRecord x d g' (with_change o f b)) (sym h.present) (record {
      number = h.number;
      present = ap (λ (s : Slot). s.present) (slot_changed x d (Some h.number) f b) ∙ h.present;
      it = f h.it;
      there = changed_here b.records h.number f h.it h.there;
      is_of = grows h.it h.is_of;
    })

-- the same record stands for a leg with the same epochs
pub has_same : (x : Role) (d : ℕ) (b : Book) (g g' : Leg) → ((r : RecordValue) → IsRecordOf g r → IsRecordOf g' r) → HasRecord x d g b → HasRecord x d g' b
has_same x d b g g' same h = record { number = h.number; present = h.present; it = h.it; there = h.there; is_of = same h.it h.is_of }

-- ---- a slot changes

nth_after : (slots : List Slot) (d : ℕ) (z : Slot) (n : ℕ) → (nth_slot (with_nth slots d z) d).present ≡ Some n → (z.present ≡ Some n) ⊎ ((nth_slot slots d).present ≡ Some n)
nth_after slots zero z n e = inr e
nth_after [] (suc i) z n e = inr e
nth_after (s ∷ slots) (suc zero) z n e = inl e
nth_after (s ∷ slots) (suc (suc i)) z n e = nth_after slots (suc i) z n e

slot_after : (x : Role) (d : ℕ) (z : Slot) (b : Book) (n : ℕ) → (slot_at x d (with_slot x d z b)).present ≡ Some n → (z.present ≡ Some n) ⊎ ((slot_at x d b).present ≡ Some n)
slot_after Dte d z b n e = nth_after b.dte.slots d z n e
slot_after Dce d z b n e = nth_after b.dce.slots d z n e

slot_elsewhere : (x : Role) (d : ℕ) (z : Slot) (b : Book) (y : Role) (c : ℕ) → (IsHere x d y c → ⊥) → slot_at y c (with_slot x d z b) ≡ slot_at y c b
slot_elsewhere x d z b y c h =
    elim (role_is x y) [
      | inl e ↦ subst (λ (r : Role). slot_at r c (with_slot x d z b) ≡ slot_at r c b) (sym e) (slot_else x d c z b (λ k. h (e, k)))
      | inr e ↦ subst (λ (r : Role). slot_at r c (with_slot x d z b) ≡ slot_at r c b) (sym e) (slot_there x d c z b)
    ]

pub slot_records : (x : Role) (d : ℕ) (z : Slot) (b : Book) → (with_slot x d z b).records ≡ b.records
slot_records Dte d z b = refl
slot_records Dce d z b = refl

pub slot_pairs : (x : Role) (d : ℕ) (z : Slot) (b : Book) → (with_slot x d z b).pairs ≡ b.pairs
slot_pairs Dte d z b = refl
slot_pairs Dce d z b = refl

pushed_slot : (r : RecordValue) (b : Book) (y : Role) (c : ℕ) → slot_at y c (with_record r b) ≡ slot_at y c b
pushed_slot r b Dte c = refl
pushed_slot r b Dce c = refl

-- a slot that loses its present record
empties : (x : Role) (d : ℕ) (z : Slot) (b : Book) → z.present ≡ None → Touches x d b (with_slot x d z b)
empties x d z b none = record {
  slots = λ y c h. ap (λ (s : Slot). s.present) (slot_elsewhere x d z b y c h);
  size = λ y. (size_slot x d z b).size y;
  count = let p = ap (λ (rs : List RecordValue). length rs) (slot_records x d z b) in omega arith;
  kept = λ n r e h. ap (λ (rs : List RecordValue). slice_get rs n) (slot_records x d z b) ∙ e;
  here = λ n e. elim (slot_after x d z b n e) [ inl f ↦ absurd (none-some n (sym none ∙ f)) | inr f ↦ inl f ];
  pairs = λ i p e. same_pairs b (with_slot x d z b) i p (slot_pairs x d z b) e;
  paired = λ i p e. inl (same_pairs (with_slot x d z b) b i p (sym (slot_pairs x d z b)) e);
}

pub touches_closed : (x : Role) (d : ℕ) (b : Book) → Touches x d b (closes x d b)
touches_closed x d b =
    touches_then x d b (changed x d with_closed b) (closes x d b) (changes x d with_closed b) (empties x d (record (slot_at x d b) { present = None; caller = None }) (changed x d with_closed b) refl)

-- a new record, which becomes the present one
pub touches_new : (x : Role) (d : ℕ) (r : RecordValue) (z : Slot) (b : Book) → z.present ≡ Some (length b.records) → Touches x d b (with_slot x d z (with_record r b))
touches_new x d r z b e = record {
  slots = λ y c h. ap (λ (s : Slot). s.present) (slot_elsewhere x d z (with_record r b) y c h ∙ pushed_slot r b y c);
  size = λ y. (size_slot x d z (with_record r b)).size y ∙ (size_record r b).size y;
  count = let p = ap (λ (rs : List RecordValue). length rs) (slot_records x d z (with_record r b)) in let q = length_pushed b.records r in omega arith;
  kept = λ n s g h. ap (λ (rs : List RecordValue). slice_get rs n) (slot_records x d z (with_record r b)) ∙ get_before b.records (r ∷ []) n s g;
  here = λ n g. elim (slot_after x d z (with_record r b) n g) [
    | inl f ↦
        (let k : length b.records ≡ n = same_Some (length b.records) n (sym e ∙ f) in
        let p = ap (λ (rs : List RecordValue). length rs) (slot_records x d z (with_record r b)) in let q = length_pushed b.records r in inr (omega arith, omega arith))
    | inr f ↦ inl (sym (ap (λ (s : Slot). s.present) (pushed_slot r b x d)) ∙ f)
  ];
  pairs = λ i p g. same_pairs b (with_slot x d z (with_record r b)) i p (slot_pairs x d z (with_record r b)) g;
  paired = λ i p g. inl (same_pairs (with_slot x d z (with_record r b)) b i p (sym (slot_pairs x d z (with_record r b))) g);
}

pub has_new : (x : Role) (d : ℕ) (r : RecordValue) (z : Slot) (b : Book) (g : Leg) → 1 ≤ d → d ≤ length (side_of x b).slots → z.present ≡ Some (length b.records) → IsRecordOf g r → HasRecord x d g (with_slot x d z (with_record r b))
has_new x d r z b g lo hi e is =
    let size = (size_record r b).size x in
    record {
      number = length b.records;
      present = ap (λ (s : Slot). s.present) (slot_here x d z (with_record r b) lo (subst (λ (n : ℕ). d ≤ n) (sym size) hi)) ∙ e;
      it = r;
      there = ap (λ (rs : List RecordValue). slice_get rs (length b.records)) (slot_records x d z (with_record r b)) ∙ get_last b.records r;
      is_of = is;
    }

-- ---- a pair

pub last_pair : (ps : List PairValue) (q : PairValue) (i : ℕ) (p : PairValue) → slice_get (ps ++ q ∷ []) i ≡ Some p → (slice_get ps i ≡ Some p) ⊎ (p ≡ q)
last_pair [] q zero p e = inr (sym (same_Some q p e))
last_pair [] q (suc i) p e = absurd (none-some p e)
last_pair (x ∷ ps) q zero p e = inl e
last_pair (x ∷ ps) q (suc i) p e = last_pair ps q i p e

with_pairs : (x : Role) (d : ℕ) (o p : Option ℕ) (b : Book) → (slot_at x d b).present ≡ p → Touches x d b (with_pair o p b)
with_pairs x d None p b at = touches_none x d b
with_pairs x d (Some n) None b at = touches_none x d b
with_pairs x d (Some n) (Some m) b at = record {
  slots = λ y c h. slots y c;
  size = λ y. size y;
  count = omega arith;
  kept = λ k r e h. e;
  here = λ k e. inl (sym (slots x d) ∙ e);
  pairs = λ i p e. get_before b.pairs (record { caller = n; callee = m } ∷ []) i p e;
  paired = λ i p e. elim (last_pair b.pairs (record { caller = n; callee = m }) i p e) [
    | inl old ↦ inl old
    | inr new ↦ inr (inl (at ∙ ap (λ (q : PairValue). Some q.callee) (sym new)))
  ];
}
  where
    slots : (y : Role) (c : ℕ) → (slot_at y c (with_pair (Some n) (Some m) b)).present ≡ (slot_at y c b).present
    slots Dte c = refl
    slots Dce c = refl

    size : (y : Role) → length (side_of y (with_pair (Some n) (Some m) b)).slots ≡ length (side_of y b).slots
    size Dte = refl
    size Dce = refl

pub touches_answered : (x : Role) (d : ℕ) (b : Book) → Touches x d b (answers x d b)
touches_answered x d b = with_pairs x d (slot_at x d b).caller (slot_at x d b).present b refl

has_pairs : (x : Role) (d : ℕ) (o p : Option ℕ) (b : Book) (g : Leg) → HasRecord x d g b → HasRecord x d g (with_pair o p b)
has_pairs x d None p b g h = h
has_pairs x d (Some n) None b g h = h
has_pairs Dte d (Some n) (Some m) b g h = record { number = h.number; present = h.present; it = h.it; there = h.there; is_of = h.is_of }
has_pairs Dce d (Some n) (Some m) b g h = record { number = h.number; present = h.present; it = h.it; there = h.there; is_of = h.is_of }

pub has_answered : (x : Role) (d : ℕ) (b : Book) (g : Leg) → HasRecord x d g b → HasRecord x d g (answers x d b)
has_answered x d b g h = has_pairs x d (slot_at x d b).caller (slot_at x d b).present b g h
