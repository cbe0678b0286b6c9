-- Where taken epochs stand at rising places of the sent ones, they match.
use Rattle.std.specs.Prelude.{◌≡◌, ℕ, zero, suc, ◌<◌, ◌≤◌, ◌⊎◌, List, [], ◌∷◌, slice_get, Some}
use Rattle.std.proofs.Common.{refl, subst, inl, inr, arith}
use Rattle.epochs.specs.Epoch.{Epoch, IsPrefixOf, IsEmpty}
use Rattle.epochs.specs.Match.{Match}
use Rattle.epochs.specs.Match.Match.{nothing, drop_empty, join, skip}
use Rattle.epochs.specs.Laws.{HasPassed, ComesOf}

is_nil : {A : Type 0} (xs : List A) → (xs ≡ []) ⊎ (xs ≡ [] → ⊥)
is_nil [] = inl refl
is_nil (x ∷ xs) = inr (λ e. cc)

empty_or_not : (e : Epoch) → IsEmpty e ⊎ (IsEmpty e → ⊥)
empty_or_not e =
    elim (is_nil e.items) [
      | inl a ↦ elim (is_nil e.interrupts) [
        | inl b ↦ inl (record { items = a; interrupts = b })
        | inr b ↦ inr (λ h. b h.interrupts)
      ]
      | inr a ↦ inr (λ h. a h.items)
    ]

abbrev before : ℕ → ℕ
before zero = zero
before (suc n) = n

before_less : (a b : ℕ) → 1 ≤ a → a < b → before a < before b
before_less zero b one lt = let no : ⊥ = omega arith in absurd no
before_less (suc a) zero one lt = let no : ⊥ = omega arith in absurd no
before_less (suc a) (suc b) one lt = omega arith

get_behind : (f : Epoch) (sent : List Epoch) (n : ℕ) (x : Epoch) → 1 ≤ n → slice_get (f ∷ sent) n ≡ Some x
    → slice_get sent (before n) ≡ Some x
get_behind f sent zero x one is = let no : ⊥ = omega arith in absurd no
get_behind f sent (suc n) x one is = is

from_one : (a b : ℕ) → a < b → 1 ≤ b
from_one a b lt = omega arith

pushed : {t : Epoch} {ts : List Epoch} {i : ℕ} {x : Epoch} → HasPassed ts i x → HasPassed (t ∷ ts) (suc i) x
pushed h = record { there = h.there; not_empty = h.not_empty }

-- the places of all but the first one
behind : {place : ℕ → ℕ} {t : Epoch} {ts sent : List Epoch} → ComesOf place (t ∷ ts) sent → ComesOf (λ i. place (suc i)) ts sent
behind c = record {
  begins = λ i x h. c.begins (suc i) x (pushed h);
  rises = λ i j d x h k lt. c.rises (suc i) (suc j) d x (pushed h) (pushed k) (omega arith);
}

-- the first sent epoch is at no place
one_back : {place : ℕ → ℕ} {f : Epoch} {ts sent : List Epoch} → ComesOf place ts (f ∷ sent)
    → ((i : ℕ) (x : Epoch) → HasPassed ts i x → 1 ≤ place i) → ComesOf (λ i. before (place i)) ts sent
one_back {place} {f} {ts} {sent} c on = record {
  begins = λ i x h. let b = c.begins i x h in (b.0, get_behind f sent (place i) b.0 (on i x h) b.1, b.2);
  rises = λ i j d x h k lt. before_less (place i) (place j) (on i d h) (c.rises i j d x h k lt);
}

first_passed : (t : Epoch) (ts : List Epoch) → (IsEmpty t → ⊥) → HasPassed (t ∷ ts) 0 t
first_passed t ts any = record { there = refl; not_empty = any }

-- behind the first one, in which something passed
later_on : {place : ℕ → ℕ} (t : Epoch) {ts sent : List Epoch} → (IsEmpty t → ⊥) → ComesOf place (t ∷ ts) sent → (i : ℕ) (x : Epoch)
    → HasPassed ts i x → place 0 < place (suc i)
later_on t {ts} any c i x h = c.rises 0 (suc i) t x (first_passed t ts any) (pushed h) (omega arith)

all_on : {place : ℕ → ℕ} (t : Epoch) {ts sent : List Epoch} → (IsEmpty t → ⊥) → ComesOf place (t ∷ ts) sent → 1 ≤ place 0 → (i : ℕ) (x : Epoch)
    → HasPassed (t ∷ ts) i x → 1 ≤ place i
all_on t any c one zero x h = one
all_on {place} t any c one (suc i) x h =
    from_one (place 0) (place (suc i)) (later_on t any c i x (record { there = h.there; not_empty = h.not_empty }))

begins_first : (t f : Epoch) (sent : List Epoch) (n : ℕ) → n ≡ 0 → (g : Epoch) × (slice_get (f ∷ sent) n ≡ Some g) × IsPrefixOf t g
    → IsPrefixOf t f
begins_first t f sent zero z b =
    let there = b.1 in let same : b.0 ≡ f = cc in subst (λ (y : Epoch). IsPrefixOf t y) same b.2
begins_first t f sent (suc n) z b = absurd cc

-- by the place of the first one: the front of what was sent, or further on
at_front : (t f : Epoch) (ts sent : List Epoch) (place : ℕ → ℕ)
    → ((p : ℕ → ℕ) (l : List Epoch) → ComesOf p ts l → Match ts l) → (IsEmpty t → ⊥) → ComesOf place (t ∷ ts) (f ∷ sent)
    → ((p : ℕ → ℕ) → ComesOf p (t ∷ ts) sent → Match (t ∷ ts) sent) → (n : ℕ) → place 0 ≡ n → Match (t ∷ ts) (f ∷ sent)
at_front t f ts sent place rest any c further zero z =
    join (begins_first t f sent (place 0) z (c.begins 0 t (first_passed t ts any)))
    (rest (λ i. before (place (suc i))) sent
    (one_back (behind c) (λ i x h. from_one (place 0) (place (suc i)) (later_on t any c i x h))))
at_front t f ts sent place rest any c further (suc n) z =
    skip (further (λ i. before (place i)) (one_back c (all_on t any c (omega arith))))

from_first : (t : Epoch) (ts : List Epoch) → ((p : ℕ → ℕ) (l : List Epoch) → ComesOf p ts l → Match ts l) → (IsEmpty t → ⊥)
    → (sent : List Epoch) (place : ℕ → ℕ) → ComesOf place (t ∷ ts) sent → Match (t ∷ ts) sent
from_first t ts rest any [] place c = let b = c.begins 0 t (first_passed t ts any) in let there = b.1 in absurd cc
from_first t ts rest any (f ∷ sent) place c =
    at_front t f ts sent place rest any c (λ p d. from_first t ts rest any sent p d) (place 0) refl

pub rising-match : (taken : List Epoch) (place : ℕ → ℕ) (sent : List Epoch) → ComesOf place taken sent → Match taken sent
rising-match [] place sent c = nothing
rising-match (t ∷ ts) place sent c =
    elim (empty_or_not t) [
      | inl h ↦ drop_empty h (rising-match ts (λ i. place (suc i)) sent (behind c))
      | inr any ↦ from_first t ts (rising-match ts) any sent place c
    ]
