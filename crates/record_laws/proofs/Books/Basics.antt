-- Small facts of lists, numbers and roles.
use Rattle.std.proofs.Common.{◌≡◌, ◌≢◌, ℕ, zero, suc, ◌<◌, ◌≤◌, ◌⊎◌, inl, inr, Bool, true, false, cond, ◌==◌, List, [], ◌∷◌, ◌++◌, length, map, set, Some, refl, sym, ap, ◌∙◌, arith, true≢false}
use Rattle.std.specs.Prelude.{slice_get}
use Rattle.std.proofs.lemmas.Option.{none-some, same_Some}
use Rattle.std.proofs.lemmas.Bool.{eq-eqb, cases_eq}
use Rattle.link_timers.specs.declared.role.Role.{Role}
use Rattle.link_timers.specs.declared.role.Role.TheVariants.{Dte, Dce}
use Rattle.link_timers.specs.Role.{other_of}
use Rattle.epochs.specs.Confirmed.{Confirms}
use Rattle.epochs.proofs.Confirms.{aligned_confirms, confirmed_taken}
use Rattle.call_records.specs.Records.{RecordValue, changed_at}
use Rattle.record_laws.specs.Words.{IsTakenFrom, sent_by, all_taken_by}

-- ---- lists

pub get_before : {X : Type 0} (xs ys : List X) (i : ℕ) (x : X) → slice_get xs i ≡ Some x → slice_get (xs ++ ys) i ≡ Some x
get_before [] ys i x e = absurd (none-some x e)
get_before (z ∷ xs) ys zero x e = e
get_before (z ∷ xs) ys (suc i) x e = get_before xs ys i x e

pub get_last : {X : Type 0} (xs : List X) (y : X) → slice_get (xs ++ y ∷ []) (length xs) ≡ Some y
get_last [] y = refl
get_last (x ∷ xs) y = get_last xs y

pub get_pushed : {X : Type 0} (xs : List X) (y : X) (i : ℕ) (x : X) → slice_get (xs ++ y ∷ []) i ≡ Some x
    → (slice_get xs i ≡ Some x) ⊎ ((i ≡ length xs) × (x ≡ y))
get_pushed [] y zero x e = inr (refl, sym (same_Some y x e))
get_pushed [] y (suc i) x e = absurd (none-some x e)
get_pushed (z ∷ xs) y zero x e = inl e
get_pushed (z ∷ xs) y (suc i) x e =
    elim (get_pushed xs y i x e) [
      | inl h ↦ inl h
      | inr h ↦ inr (ap suc h.0, h.1)
    ]

pub get_there : {X : Type 0} (xs : List X) (i : ℕ) → i < length xs → (x : X) × (slice_get xs i ≡ Some x)
get_there [] i h = absurd (omega arith)
get_there (x ∷ xs) zero h = (x, refl)
get_there (x ∷ xs) (suc i) h = get_there xs i (omega arith)

suc_ne : {m n : ℕ} → m ≢ n → suc m ≢ suc n
suc_ne {m} {n} h e = h (omega arith)

pub get_changed : (rs : List RecordValue) (n : ℕ) (f : RecordValue → RecordValue) (m : ℕ) (r' : RecordValue) → slice_get (changed_at n f rs) m ≡ Some r'
    → (r : RecordValue) × (slice_get rs m ≡ Some r) × (((m ≡ n) × (r' ≡ f r)) ⊎ ((m ≢ n) × (r' ≡ r)))
get_changed [] n f m r' e = absurd (none-some r' e)
get_changed (r ∷ rs) zero f zero r' e = (r, refl, inl (refl, sym (same_Some (f r) r' e)))
get_changed (r ∷ rs) zero f (suc m) r' e = (r', e, inr (λ h. omega arith, refl))
get_changed (r ∷ rs) (suc n) f zero r' e = (r, refl, inr (λ h. omega arith, sym (same_Some r r' e)))
get_changed (r ∷ rs) (suc n) f (suc m) r' e =
    let h = get_changed rs n f m r' e in (
      h.0,
      h.1,
      elim h.2 [
        | inl q ↦ inl (ap suc q.0, q.1)
        | inr q ↦ inr (suc_ne q.0, q.1)
      ],
    )

pub length_changed : (rs : List RecordValue) (n : ℕ) (f : RecordValue → RecordValue) → length (changed_at n f rs) ≡ length rs
length_changed [] n f = refl
length_changed (r ∷ rs) zero f = refl
length_changed (r ∷ rs) (suc n) f = ap suc (length_changed rs n f)

pub get_set : {X : Type 0} (xs : List X) (n : ℕ) (y : X) (m : ℕ) (x : X) → slice_get (set xs n y) m ≡ Some x
    → ((m ≡ n) × (x ≡ y)) ⊎ ((m ≢ n) × (slice_get xs m ≡ Some x))
get_set [] n y m x e = absurd (none-some x e)
get_set (z ∷ xs) zero y zero x e = inl (refl, sym (same_Some y x e))
get_set (z ∷ xs) zero y (suc m) x e = inr (λ h. omega arith, e)
get_set (z ∷ xs) (suc n) y zero x e = inr (λ h. omega arith, e)
get_set (z ∷ xs) (suc n) y (suc m) x e =
    elim (get_set xs n y m x e) [
      | inl q ↦ inl (ap suc q.0, q.1)
      | inr q ↦ inr (suc_ne q.0, q.1)
    ]

pub set_here : {X : Type 0} (xs : List X) (n : ℕ) (y x : X) → slice_get xs n ≡ Some x → slice_get (set xs n y) n ≡ Some y
set_here [] n y x e = absurd (none-some x e)
set_here (z ∷ xs) zero y x e = refl
set_here (z ∷ xs) (suc n) y x e = set_here xs n y x e

pub set_elsewhere : {X : Type 0} (xs : List X) (n m : ℕ) (y : X) → m ≢ n → slice_get (set xs n y) m ≡ slice_get xs m
set_elsewhere [] n m y h = refl
set_elsewhere (z ∷ xs) zero zero y h = absurd (h refl)
set_elsewhere (z ∷ xs) zero (suc m) y h = refl
set_elsewhere (z ∷ xs) (suc n) zero y h = refl
set_elsewhere (z ∷ xs) (suc n) (suc m) y h = set_elsewhere xs n m y (λ e. h (ap suc e))

pub length_set : {X : Type 0} (xs : List X) (n : ℕ) (y : X) → length (set xs n y) ≡ length xs
length_set [] n y = refl
length_set (x ∷ xs) zero y = refl
length_set (x ∷ xs) (suc n) y = ap suc (length_set xs n y)

pub length_pushed : {X : Type 0} (xs : List X) (y : X) → length (xs ++ y ∷ []) ≡ suc (length xs)
length_pushed [] y = refl
length_pushed (x ∷ xs) y = ap suc (length_pushed xs y)

-- ---- numbers, tests

pub number_is : (m n : ℕ) → (m ≡ n) ⊎ (m ≢ n)
number_is m n = cases_eq m n

pub eq_true : (m n : ℕ) → m ≡ n → (m == n) ≡ true
eq_true m n e = eq-eqb m n e

pub by_true : {X : Type 0} (b : Bool) (x y : X) → b ≡ true → cond b x y ≡ x
by_true true x y e = refl
by_true false x y e = absurd (true≢false (sym e))

pub by_false : {X : Type 0} (b : Bool) (x y : X) → b ≡ false → cond b x y ≡ y
by_false true x y e = absurd (true≢false e)
by_false false x y e = refl

pub order : (m n : ℕ) → (m ≤ n) ⊎ (n < m)
order zero n = inl (omega arith)
order (suc m) zero = inr (omega arith)
order (suc m) (suc n) =
    elim (order m n) [
      | inl h ↦ inl (omega arith)
      | inr h ↦ inr (omega arith)
    ]

-- ---- roles

pub role_is : (x r : Role) → (r ≡ x) ⊎ (r ≡ other_of x)
role_is Dte Dte = inl refl
role_is Dte Dce = inr refl
role_is Dce Dte = inr refl
role_is Dce Dce = inl refl

abbrev is_dte : Role → Bool
is_dte Dte = true
is_dte Dce = false

pub dte_not_dce : Dte ≡ Dce → ⊥
dte_not_dce e = true≢false (ap is_dte e)

pub other_differs : (x : Role) → other_of x ≡ x → ⊥
other_differs Dte e = dte_not_dce (sym e)
other_differs Dce e = dte_not_dce e

pub twice : (x : Role) → other_of (other_of x) ≡ x
twice Dte = refl
twice Dce = refl

pub is_role : (x r : Role) → (r ≡ x) ⊎ (r ≢ x)
is_role x r =
    elim (role_is x r) [
      | inl e ↦ inl e
      | inr e ↦ inr (λ h. other_differs x (sym e ∙ h))
    ]

-- ---- functions that agree everywhere are one

pub all_same : {X Y : Type 0} (f g : X → Y) → ((x : X) → f x ≡ g x) → f ≡ g
all_same f g h = λ i x. h x i

-- ---- what is confirmed to the one end was taken by the other

pub confirmed_of : (sender taker : RecordValue) → IsTakenFrom sender taker → Confirms (all_taken_by taker) (sent_by sender)
confirmed_of sender taker h =
    confirmed_taken (taker.taken_before ++ taker.taken ∷ []) (sent_by sender)
    (aligned_confirms (sender.sent_before ++ sender.sent ∷ []) (taker.taken_before ++ taker.taken ∷ []) h)

-- ---- a view of each element

pub map_pushed : {X Y : Type 0} (f : X → Y) (xs : List X) (x : X) → map f (xs ++ x ∷ []) ≡ map f xs ++ f x ∷ []
map_pushed f [] x = refl
map_pushed f (y ∷ xs) x = ap (λ (l : List _). f y ∷ l) (map_pushed f xs x)

pub map_set : {X Y : Type 0} (f : X → Y) (xs : List X) (n : ℕ) (x y : X) → slice_get xs n ≡ Some x → f y ≡ f x → map f (set xs n y) ≡ map f xs
map_set f [] n x y e h = refl
map_set f (z ∷ xs) zero x y e h = ap (λ (o : _). o ∷ map f xs) (h ∙ ap f (sym (same_Some z x e)))
map_set f (z ∷ xs) (suc n) x y e h = ap (λ (l : List _). f z ∷ l) (map_set f xs n x y e h)

pub map_at : {X Y : Type 0} (f : X → Y) (xs : List X) (n : ℕ) (y : Y) → slice_get (map f xs) n ≡ Some y → (x : X) × (slice_get xs n ≡ Some x) × (f x ≡ y)
map_at f [] n y e = absurd (none-some y e)
map_at f (x ∷ xs) zero y e = (x, refl, same_Some (f x) y e)
map_at f (x ∷ xs) (suc n) y e = map_at f xs n y e
