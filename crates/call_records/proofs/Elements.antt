-- Elements of a list by their places.
use Rattle.std.specs.Prelude.{◌≡◌, ◌<◌, ◌≤◌, ◌+◌, ℕ, zero, suc, List, [], ◌∷◌, length, map, slice_get, Some, None}
use Rattle.std.proofs.Common.{get_or, inl, inr, refl, sym, ap, subst, arith}
use Rattle.std.proofs.lemmas.Bool.{cases_lt}
use Rattle.std.proofs.lemmas.List.{length-map}
use Rattle.std.specs.List.{All}
use Rattle.std.proofs.lemmas.Option.{same_Some, none-some}

-- elements of a list that is mapped
pub get-map : {A B : Type 0} (f : A → B) (xs : List A) (n : ℕ) (x : A) → slice_get xs n ≡ Some x → slice_get (map f xs) n ≡ Some (f x)
get-map f [] n x at = absurd (none-some x at)
get-map f (y ∷ xs) zero x at = ap (λ z. Some (f z)) (same_Some y x at)
get-map f (y ∷ xs) (suc n) x at = get-map f xs n x at

pub get-map-none : {A B : Type 0} (f : A → B) (xs : List A) (n : ℕ) → slice_get xs n ≡ None → slice_get (map f xs) n ≡ None
get-map-none f [] n at = refl
get-map-none f (y ∷ xs) zero at = cc
get-map-none f (y ∷ xs) (suc n) at = get-map-none f xs n at

-- an element at a place
pub get-there : {A : Type 0} (xs : List A) (n : ℕ) (x : A) → n < length xs → x ≡ get_or xs n x → slice_get xs n ≡ Some x
get-there [] n x within is = absurd (omega arith)
get-there (y ∷ xs) zero x within is = ap Some (sym is)
get-there (y ∷ xs) (suc n) x within is = get-there xs n x (omega arith) is

pub get-past : {A : Type 0} (xs : List A) (n : ℕ) → length xs ≤ n → slice_get xs n ≡ None
get-past [] n past = refl
get-past (y ∷ xs) zero past = absurd (omega arith)
get-past (y ∷ xs) (suc n) past = get-past xs n (omega arith)

-- what holds of the elements before a place, and of the one there
get_or-map : {A B : Type 0} (f : A → B) (xs : List A) (n : ℕ) (d : A) (e : B) → n < length xs → get_or (map f xs) n e ≡ f (get_or xs n d)
get_or-map f [] n d e within = absurd (omega arith)
get_or-map f (y ∷ xs) zero d e within = refl
get_or-map f (y ∷ xs) (suc n) d e within = get_or-map f xs n d e (omega arith)

pub holds-at : {A B : Type 0} (P : B → Type 0) (f : A → B) (xs : List A) (n : ℕ) (d : A) → n < length xs → All P (map f xs)
    → P (f (get_or xs n d))
holds-at P f xs n d within all =
    let n_within : n < length (map f xs) = rw (length-map xs f) within in
    subst P (get_or-map f xs n d (f d) within) (all n (f d) n_within)

pub holds-next : {A B : Type 0} (P : B → Type 0) (f : A → B) (xs : List A) (n : ℕ) (d : A) → n < length xs → P (f (get_or xs n d))
    → ((k : ℕ) (e : B) → k < n → P (get_or (map f xs) k e)) → (k : ℕ) (e : B) → k < n + 1 → P (get_or (map f xs) k e)
holds-next P f xs n d within here before k e below =
    elim (cases_lt k n) [
      | inl less ↦ before k e less
      | inr more ↦ (let same : n ≡ k = omega arith in
          subst (λ i. P (get_or (map f xs) i e)) same (subst P (sym (get_or-map f xs n d e within)) here))
    ]
