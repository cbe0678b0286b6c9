-- Small facts of lists, slots and roles.
use Rattle.std.proofs.Common.{◌≡◌, ℕ, zero, suc, ◌⊎◌, inl, inr, Bool, true, false, List, [], ◌∷◌, ◌++◌, length, set, Option, Some, None, refl, sym, ap, ◌∙◌, true≢false}
use Rattle.std.specs.Prelude.{slice_get}
use Rattle.std.proofs.lemmas.Option.{none-some, same_Some}
use Rattle.link_timers.specs.declared.role.Role.{Role}
use Rattle.link_timers.specs.declared.role.Role.TheVariants.{Dte, Dce}
use Rattle.link_timers.specs.Role.{other_of}
use Rattle.call_records.specs.Records.{RecordValue, changed_at}
use Rattle.call_records.specs.Book.{Slot, found_slot, free_slot, nth_slot, with_nth}

-- ---- lists that grow

pub get_before : {X : Type 0} (xs ys : List X) (i : ℕ) (x : X) → slice_get xs i ≡ Some x → slice_get (xs ++ ys) i ≡ Some x
get_before [] ys i x e = absurd (none-some x e)
get_before (z ∷ xs) ys zero x e = e
get_before (z ∷ xs) ys (suc i) x e = get_before xs ys i x e

pub get_last : {X : Type 0} (xs : List X) (y : X) → slice_get (xs ++ y ∷ []) (length xs) ≡ Some y
get_last [] y = refl
get_last (x ∷ xs) y = get_last xs y

pub get_pushed : {X : Type 0} (xs : List X) (y : X) (i : ℕ) (x : X) → slice_get (xs ++ y ∷ []) i ≡ Some x → (slice_get xs i ≡ Some x) ⊎ (x ≡ y)
get_pushed [] y zero x e = inr (sym (same_Some y x e))
get_pushed [] y (suc i) x e = absurd (none-some x e)
get_pushed (z ∷ xs) y zero x e = inl e
get_pushed (z ∷ xs) y (suc i) x e = get_pushed xs y i x e

-- what is in one list stays in another one, so nothing has gone
pub still_none : {X : Type 0} (xs ys : List X) (n : ℕ) → ((x : X) → slice_get xs n ≡ Some x → (y : X) × (slice_get ys n ≡ Some y)) → slice_get ys n ≡ None → slice_get xs n ≡ None
still_none {X} xs ys n kept none = by (slice_get xs n) refl
  where
    by : (o : Option X) → slice_get xs n ≡ o → slice_get xs n ≡ None
    by None at = at
    by (Some x) at = (let y = kept x at in absurd (none-some y.0 (sym none ∙ y.1)))

-- ---- records that change

pub get_changed : (rs : List RecordValue) (n : ℕ) (f : RecordValue → RecordValue) (m : ℕ) (r' : RecordValue) → slice_get (changed_at n f rs) m ≡ Some r'
    → (r : RecordValue) × (slice_get rs m ≡ Some r) × (((n ≡ m) × (r' ≡ f r)) ⊎ (r' ≡ r))
get_changed [] n f m r' e = absurd (none-some r' e)
get_changed (r ∷ rs) zero f zero r' e = (r, refl, inl (refl, sym (same_Some (f r) r' e)))
get_changed (r ∷ rs) zero f (suc m) r' e = (r', e, inr refl)
get_changed (r ∷ rs) (suc n) f zero r' e = (r, refl, inr (sym (same_Some r r' e)))
get_changed (r ∷ rs) (suc n) f (suc m) r' e =
    let h = get_changed rs n f m r' e in (
      h.0,
      h.1,
      elim h.2 [
        | inl q ↦ inl (ap suc q.0, q.1)
        | inr q ↦ inr q
      ],
    )

-- at the place itself
pub changed_here : (rs : List RecordValue) (n : ℕ) (f : RecordValue → RecordValue) (r' : RecordValue) → slice_get (changed_at n f rs) n ≡ Some r'
    → (r : RecordValue) × (slice_get rs n ≡ Some r) × (r' ≡ f r)
changed_here [] n f r' e = absurd (none-some r' e)
changed_here (r ∷ rs) zero f r' e = (r, refl, sym (same_Some (f r) r' e))
changed_here (r ∷ rs) (suc n) f r' e = changed_here rs n f r' e

pub changed_there : (rs : List RecordValue) (n : ℕ) (f : RecordValue → RecordValue) (m : ℕ) (r : RecordValue) → ((x : RecordValue) → (f x).node ≡ x.node) → slice_get rs m ≡ Some r
    → (r' : RecordValue) × (slice_get (changed_at n f rs) m ≡ Some r') × (r'.node ≡ r.node)
changed_there [] n f m r h e = absurd (none-some r e)
changed_there (x ∷ rs) zero f zero r h e = (f x, refl, h x ∙ ap (λ (z : RecordValue). z.node) (same_Some x r e))
changed_there (x ∷ rs) zero f (suc m) r h e = (r, e, refl)
changed_there (x ∷ rs) (suc n) f zero r h e = (r, e, refl)
changed_there (x ∷ rs) (suc n) f (suc m) r h e = changed_there rs n f m r h e

pub changed_twice : (rs : List RecordValue) (n : ℕ) (f g : RecordValue → RecordValue) → changed_at n g (changed_at n f rs) ≡ changed_at n (λ r. g (f r)) rs
changed_twice [] n f g = refl
changed_twice (r ∷ rs) zero f g = refl
changed_twice (r ∷ rs) (suc n) f g = ap (λ (l : List RecordValue). r ∷ l) (changed_twice rs n f g)

-- ---- slots

set_cases : (xs : List Slot) (n : ℕ) (y : Slot) (m : ℕ) → (slice_get (set xs n y) m ≡ slice_get xs m) ⊎ ((slice_get (set xs n y) m ≡ Some y) × (m ≡ n))
set_cases [] n y m = inl refl
set_cases (x ∷ xs) zero y zero = inr (refl, refl)
set_cases (x ∷ xs) zero y (suc m) = inl refl
set_cases (x ∷ xs) (suc n) y zero = inl refl
set_cases (x ∷ xs) (suc n) y (suc m) =
    elim (set_cases xs n y m) [
      | inl q ↦ inl q
      | inr q ↦ inr (q.0, ap suc q.1)
    ]

-- where a slot is written, the slot of each channel is the new one, and its channel that one, or the old one
pub nth_cases : (slots : List Slot) (d : ℕ) (z : Slot) (c : ℕ) → (nth_slot (with_nth slots d z) c ≡ nth_slot slots c) ⊎ ((nth_slot (with_nth slots d z) c ≡ z) × (c ≡ d))
nth_cases slots zero z c = inl refl
nth_cases slots (suc i) z zero = inl refl
nth_cases slots (suc i) z (suc j) =
    elim (set_cases slots i z j) [
      | inl q ↦ inl (ap found_slot q)
      | inr q ↦ inr (ap found_slot q.0, ap suc q.1)
    ]

-- ---- roles

is_dte : Role → Bool
is_dte Dte = true
is_dte Dce = false

pub other_differs : (x : Role) → other_of x ≡ x → ⊥
unfolding is_dte
other_differs Dte e = true≢false (sym (ap is_dte e))
other_differs Dce e = true≢false (ap is_dte e)

-- ---- what is there is below the length

pub below_length : {X : Type 0} (xs : List X) (i : ℕ) (x : X) → slice_get xs i ≡ Some x → i ≡ length xs → ⊥
below_length [] i x e is = none-some x e
below_length (y ∷ xs) zero x e is = absurd cc
below_length (y ∷ xs) (suc i) x e is = below_length xs i x e cc

-- the slot that was written is the new one, or there is no such channel
set_here : (xs : List Slot) (n : ℕ) (y : Slot) → (slice_get (set xs n y) n ≡ Some y) ⊎ (slice_get (set xs n y) n ≡ None)
set_here [] n y = inr refl
set_here (x ∷ xs) zero y = inl refl
set_here (x ∷ xs) (suc n) y = set_here xs n y

pub nth_here : (slots : List Slot) (d : ℕ) (z : Slot) → (nth_slot (with_nth slots d z) d ≡ z) ⊎ (nth_slot (with_nth slots d z) d ≡ free_slot)
nth_here slots zero z = inr refl
nth_here slots (suc i) z =
    elim (set_here slots i z) [
      | inl q ↦ inl (ap found_slot q)
      | inr q ↦ inr (ap found_slot q)
    ]
