-- One list begins another, element by element.
use Rattle.std.specs.Prelude.{◌≡◌, ◌↔◌, ◌<◌, ◌≤◌, ◌+◌, ℕ, zero, suc, List, [], ◌∷◌, drop, length}
use Rattle.std.proofs.Common.{get_or, drop-cons, add-one, refl, sym, ap, subst, ◌∙◌, arith}
use Rattle.epochs.specs.Prefix.{IsListPrefix}

pub iff-then : {P Q R : Type 0} → (P ↔ Q) → (Q ↔ R) → P ↔ R
iff-then a b = (λ p. b.0 (a.0 p), λ r. a.1 (b.1 r))

pub prefix-none : {A : Type 0} (ys : List A) → IsListPrefix A [] ys
prefix-none ys = record { rest = ys; whole = refl }

pub prefix-more : {A : Type 0} (x : A) (xs ys : List A) → IsListPrefix A (x ∷ xs) (x ∷ ys) ↔ IsListPrefix A xs ys
prefix-more x xs ys = (
  λ p. record { rest = p.rest; whole = ap (λ (l : List _). drop 1 l) p.whole },
  λ p. record { rest = p.rest; whole = ap (λ l. x ∷ l) p.whole },
)

prefix-first : {A : Type 0} (x y : A) (xs ys : List A) → IsListPrefix A (x ∷ xs) (y ∷ ys) → x ≡ y
prefix-first x y xs ys p = let same = p.whole in cc

pub prefix-along : {A : Type 0} {xs us ys vs : List A} → xs ≡ us → ys ≡ vs → IsListPrefix A xs ys → IsListPrefix A us vs
prefix-along {A} {xs} {us} {ys} {vs} e f p =
    subst (λ (l : List A). IsListPrefix A l vs) e (subst (λ (l : List A). IsListPrefix A xs l) f p)

-- what is left from a place on, by the element there
from_place : {A : Type 0} (xs : List A) (i : ℕ) (x : A) → i < length xs → x ≡ get_or xs i x → drop i xs ≡ x ∷ drop (suc i) xs
from_place xs i x within there = drop-cons xs i x within ∙ ap (λ z. z ∷ drop (suc i) xs) (sym there)

pub prefix-next : {A : Type 0} (xs : List A) (i : ℕ) (x y : A) (ys more : List A) → i < length xs → x ≡ get_or xs i x
    → ys ≡ y ∷ more → x ≡ y → IsListPrefix A (drop i xs) ys ↔ IsListPrefix A (drop (i + 1) xs) more
prefix-next {A} xs i x y ys more within there is same =
    let left = from_place xs i x within there in
    let others : ys ≡ x ∷ more = is ∙ ap (λ z. z ∷ more) (sym same) in
    let next : drop (i + 1) xs ≡ drop (suc i) xs = ap (λ k. drop k xs) (add-one i) in (
      λ p. prefix-along (sym next) refl ((prefix-more x (drop (suc i) xs) more).0 (prefix-along left others p)),
      λ p. prefix-along (sym left) (sym others) ((prefix-more x (drop (suc i) xs) more).1 (prefix-along next refl p)),
    )

pub prefix-differs : {A : Type 0} (xs : List A) (i : ℕ) (x y : A) (ys more : List A) → i < length xs → x ≡ get_or xs i x
    → ys ≡ y ∷ more → (x ≡ y → ⊥) → IsListPrefix A (drop i xs) ys → ⊥
prefix-differs xs i x y ys more within there is differ p =
    differ (prefix-first x y (drop (suc i) xs) more (prefix-along (from_place xs i x within there) is p))

pub drop-ended : {A : Type 0} (i : ℕ) (xs : List A) → length xs ≤ i → drop i xs ≡ []
drop-ended zero [] ended = refl
drop-ended (suc i) [] ended = refl
drop-ended zero (x ∷ xs) ended = absurd (omega arith)
drop-ended (suc i) (x ∷ xs) ended = drop-ended i xs (omega arith)
