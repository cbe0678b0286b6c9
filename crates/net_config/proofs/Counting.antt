-- Elements of a list that pass a test.
use Rattle.std.proofs.Common.{◌≡◌, ℕ, zero, suc, ◌<◌, ◌≤◌, inl, inr, Bool, true, cond, ◌||◌, not}
use Rattle.std.proofs.Common.{List, [], ◌∷◌, length, Some, None, refl, sym, ap, subst, ◌∙◌, ◌+◌, arith, true≢false, ltb}
use Rattle.std.specs.Prelude.{slice_get, unwrap_or}
use Rattle.std.specs.List.{filter, list_all, list_any, position_or_len, prefix_len}
use Rattle.std.proofs.lemmas.Option.{none-some, same_Some, slice_get_within}
use Rattle.std.proofs.lemmas.Bool.{cases_Bool, cond_both, and_parts, eqb-true, lt-ltb}
use Rattle.net_config.specs.Served.{exactly_one, place_of}

-- an element that passes, and its place
pub record Passes {A : Type 0} (test : A → Bool) (xs : List A) : Type 0 where
  pub place : ℕ
  pub item : A
  pub there : slice_get xs place ≡ Some item
  pub passes : test item ≡ true

passes_more : {A : Type 0} (test : A → Bool) (y : A) (xs : List A) → Passes test xs → Passes test (y ∷ xs)
passes_more test y xs p = record { place = suc p.place; item = p.item; there = p.there; passes = p.passes }

-- ---- all, any

pub all_at : {A : Type 0} (test : A → Bool) (xs : List A) (i : ℕ) (x : A) → list_all test xs ≡ true
    → slice_get xs i ≡ Some x → test x ≡ true
all_at test [] i x all e = absurd (none-some x e)
all_at test (y ∷ xs) zero x all e =
    ap test (sym (same_Some y x e)) ∙ (and_parts (test y) (list_all test xs) all).0
all_at test (y ∷ xs) (suc i) x all e = all_at test xs i x (and_parts (test y) (list_all test xs) all).1 e

pub any_there : {A : Type 0} (test : A → Bool) (xs : List A) → list_any test xs ≡ true → Passes test xs
any_there test [] any = absurd (true≢false (sym any))
any_there test (y ∷ xs) any =
    elim (cases_Bool (test y)) [
      | inl q ↦ record { place = 0; item = y; there = refl; passes = q }
      | inr q ↦ passes_more test y xs (any_there test xs (sym (ap (λ b. b || list_any test xs) q) ∙ any))
    ]

-- ---- exactly one

kept : {A : Type 0} (test : A → Bool) (y : A) (xs : List A) → 0 < length (filter test xs)
    → 0 < length (filter test (y ∷ xs))
kept test y xs h =
    cond_both (test y) (y ∷ filter test xs) (filter test xs) (λ zs. 0 < length zs) (λ _. omega arith) (λ _. h)

passing : {A : Type 0} (test : A → Bool) (y : A) (xs : List A) → test y ≡ true
    → 0 < length (filter test (y ∷ xs))
passing test y xs q =
    cond_both (test y) (y ∷ filter test xs) (filter test xs) (λ zs. 0 < length zs) (λ _. omega arith) (λ w. absurd (true≢false (sym q ∙ w)))

some_kept : {A : Type 0} (test : A → Bool) (xs : List A) (i : ℕ) (x : A) → slice_get xs i ≡ Some x
    → test x ≡ true → 0 < length (filter test xs)
some_kept test [] i x e h = absurd (none-some x e)
some_kept test (y ∷ xs) zero x e h = passing test y xs (ap test (same_Some y x e) ∙ h)
some_kept test (y ∷ xs) (suc i) x e h = kept test y xs (some_kept test xs i x e h)

kept_there : {A : Type 0} (test : A → Bool) (xs : List A) → 0 < length (filter test xs) → Passes test xs
kept_there test [] h = absurd (omega arith)
kept_there test (y ∷ xs) h =
    elim (cases_Bool (test y)) [
      | inl q ↦ record { place = 0; item = y; there = refl; passes = q }
      | inr q ↦ passes_more test y xs (kept_there test xs (subst (λ b. 0 < length (cond b (y ∷ filter test xs) (filter test xs))) q h))
    ]

pub one_there : {A : Type 0} (test : A → Bool) (xs : List A) → exactly_one test xs ≡ true → Passes test xs
one_there test xs one =
    let count : length (filter test xs) ≡ 1 = eqb-true (length (filter test xs)) 1 one in
    kept_there test xs (omega arith)

first_at : {A : Type 0} (test : A → Bool) (xs : List A) (i : ℕ) (x : A) → length (filter test xs) ≡ 1
    → slice_get xs i ≡ Some x → test x ≡ true → position_or_len test xs ≡ i
first_at test [] i x one e h = absurd (none-some x e)
first_at test (y ∷ xs) zero x one e h =
    let q : test y ≡ true = ap test (same_Some y x e) ∙ h in
    ap (λ b. cond (not b) (1 + prefix_len (λ z. not (test z)) xs) 0) q
first_at test (y ∷ xs) (suc i) x one e h =
    elim (cases_Bool (test y)) [
      | inl q ↦
          let some = some_kept test xs i x e h in
          let both : length (y ∷ filter test xs) ≡ 1
          = sym (ap (λ b. length (cond b (y ∷ filter test xs) (filter test xs))) q) ∙ one in
          absurd (omega arith)
      | inr q ↦
          let rest : length (filter test xs) ≡ 1
          = sym (ap (λ b. length (cond b (y ∷ filter test xs) (filter test xs))) q) ∙ one in
          let before = first_at test xs i x rest e h in
          ap (λ b. cond (not b) (1 + prefix_len (λ z. not (test z)) xs) 0) q ∙ omega (arith, before)
    ]

-- where exactly one passes, the place of the first is that of any
pub place_is : {A : Type 0} (test : A → Bool) (xs : List A) (i : ℕ) (x : A) → exactly_one test xs ≡ true
    → slice_get xs i ≡ Some x → test x ≡ true → place_of test xs ≡ i
place_is test xs i x one e h =
    let first = first_at test xs i x (eqb-true (length (filter test xs)) 1 one) e h in
    let within = slice_get_within xs i x e in
    ap (λ n. unwrap_or (cond (ltb n (length xs)) (Some n) None) 0) first
    ∙ ap (λ b. unwrap_or (cond b (Some i) None) 0) (lt-ltb i (length xs) within)

-- ---- at most one

rest_most : {A : Type 0} (test : A → Bool) (y : A) (xs : List A) → length (filter test (y ∷ xs)) ≤ 1
    → length (filter test xs) ≤ 1
rest_most test y xs =
    cond_both (test y) (y ∷ filter test xs) (filter test xs) (λ zs. length zs ≤ 1 → length (filter test xs) ≤ 1)
    (λ _ h. omega (arith, h)) (λ _ h. h)

not_both : {A : Type 0} (test : A → Bool) (y : A) (xs : List A) → length (filter test (y ∷ xs)) ≤ 1
    → test y ≡ true → 0 < length (filter test xs) → ⊥
not_both test y xs most q some =
    let both : length (y ∷ filter test xs) ≤ 1
    = subst (λ b. length (cond b (y ∷ filter test xs) (filter test xs)) ≤ 1) q most in
    omega arith

-- where at most one passes, any two that do stand at the same place
pub same_place : {A : Type 0} (test : A → Bool) (xs : List A) (i j : ℕ) (x y : A) → length (filter test xs) ≤ 1
    → slice_get xs i ≡ Some x → test x ≡ true → slice_get xs j ≡ Some y → test y ≡ true → i ≡ j
same_place test [] i j x y most e h f g = absurd (none-some x e)
same_place test (z ∷ xs) zero zero x y most e h f g = refl
same_place test (z ∷ xs) zero (suc j) x y most e h f g =
    absurd (not_both test z xs most (ap test (same_Some z x e) ∙ h) (some_kept test xs j y f g))
same_place test (z ∷ xs) (suc i) zero x y most e h f g =
    absurd (not_both test z xs most (ap test (same_Some z y f) ∙ g) (some_kept test xs i x e h))
same_place test (z ∷ xs) (suc i) (suc j) x y most e h f g =
    ap suc (same_place test xs i j x y (rest_most test z xs most) e h f g)
