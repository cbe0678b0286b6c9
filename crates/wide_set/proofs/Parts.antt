-- The numbers of a set, part by part.
use Rattle.std.proofs.Common.{◌≡◌, ◌≤◌, ◌<◌, ◌+◌, ◌-◌, ◌*◌, ◌/◌, ◌%◌, ℕ, zero, suc, Bool, true, false, List, [], ◌∷◌, length, Some, None}
use Rattle.std.proofs.Common.{get_or, refl, sym, ap, ap₂, ◌∙◌, arith, inl, inr, ◌⊎◌}
use Rattle.std.specs.Prelude.{slice_get, not, ◌&&◌, nat_lt}
use Rattle.std.proofs.lemmas.Bool.{cases_lt, lt-ltb, le-ltb, false≢true}
use Rattle.std.proofs.lemmas.Option.{slice_get-get_or}
use Rattle.number_set.specs.declared.NumberSet.{NumberSet}
use Rattle.number_set.specs.NumberSet as part
use Rattle.wide_set.specs.WideSet.{has, has_in}

past_end : {X : Type 0} (xs : List X) (i : ℕ) → length xs ≤ i → slice_get xs i ≡ None
past_end [] i h = refl
past_end (x ∷ xs) zero h = absurd (omega (arith, h))
past_end (x ∷ xs) (suc i) h = past_end xs i (omega (arith, h))

pub beyond : (parts : List NumberSet) (n : ℕ) → 32 * length parts ≤ n → has parts n ≡ true
beyond parts n h = ap (λ o. has_in o (n % 32)) (past_end parts (n / 32) (omega (arith, h)))

-- the numbers of one part
pub at_part : (parts : List NumberSet) (at : ℕ) (d numbers : NumberSet) → at < length parts → numbers ≡ get_or parts at d → (k : ℕ)
    → k < 32 → has parts (32 * at + k) ≡ part.has numbers k
at_part parts at d numbers h is k small =
    ap₂ (λ (i j : ℕ). has_in (slice_get parts i) j) (omega (arith, small)) (omega (arith, small))
    ∙ ap (λ o. has_in o k) (slice_get-get_or parts at d h ∙ ap Some (sym is))

-- between two numbers
inside : (b : Bool) (k first : ℕ) → first ≤ k → k < 32 → (b && (not (nat_lt k first) && nat_lt k 32)) ≡ b
inside b k first least most =
    ap₂ (λ (x y : Bool). b && (not x && y)) (le-ltb k first least) (lt-ltb k 32 most) ∙ by b
  where
    by : (b : Bool) → (b && (not false && true)) ≡ b
    by true = refl
    by false = refl

outside : (b : Bool) (k first : ℕ) → k < first → (b && (not (nat_lt k first) && nat_lt k 32)) ≡ false
outside b k first less = ap (λ (x : Bool). b && (not x && nat_lt k 32)) (lt-ltb k first less) ∙ by b
  where
    by : (b : Bool) → (b && false) ≡ false
    by true = refl
    by false = refl

above : (b : Bool) (k first : ℕ) → 32 ≤ k → (b && (not (nat_lt k first) && nat_lt k 32)) ≡ false
above b k first high = ap (λ (y : Bool). b && (not (nat_lt k first) && y)) (le-ltb k 32 high) ∙ by b (not (nat_lt k first))
  where
    by : (b c : Bool) → (b && (c && false)) ≡ false
    by true true = refl
    by true false = refl
    by false c = refl

-- a part from a number on
abbrev IsFrom : (numbers : NumberSet) → (first : ℕ) → (front : NumberSet) → Type 0
IsFrom numbers first front =
    (n : ℕ) → part.has front n ≡ (part.has numbers n && (not (nat_lt n first) && nat_lt n 32))

pub least_of : (numbers : NumberSet) (first : ℕ) (front : NumberSet) (n : ℕ) → IsFrom numbers first front
    → part.has front n ≡ true → (first ≤ n) × (n < 32) × (part.has numbers n ≡ true)
least_of numbers first front n is there =
    (least (cases_lt n first), most (cases_lt n 32), both (part.has numbers n) (sym (is n) ∙ there))
  where
    least : (n < first) ⊎ (first ≤ n) → first ≤ n
    least (inl less) = absurd (false≢true (sym (outside (part.has numbers n) n first less) ∙ sym (is n) ∙ there))
    least (inr h) = h

    most : (n < 32) ⊎ (32 ≤ n) → n < 32
    most (inl h) = h
    most (inr high) = absurd (false≢true (sym (above (part.has numbers n) n first high) ∙ sym (is n) ∙ there))

    both : (b : Bool) → (b && (not (nat_lt n first) && nat_lt n 32)) ≡ true → b ≡ true
    both true h = refl
    both false h = h

-- there is none up to a number of the part at this place
pub none_up_to : (parts : List NumberSet) (at : ℕ) (d numbers : NumberSet) (from first : ℕ) (front : NumberSet) (end : ℕ)
    → at < length parts → numbers ≡ get_or parts at d → IsFrom numbers first front → end ≤ 32
    → ((n : ℕ) → from ≤ n → n < 32 * at + first → has parts n ≡ false)
    → ((k : ℕ) → k < end → part.has front k ≡ false)
    → (n : ℕ) → from ≤ n → n < 32 * at + end → has parts n ≡ false
none_up_to parts at d numbers from first front end h is of_front small before here n after less =
    go (cases_lt n (32 * at + first))
  where
    go : (n < 32 * at + first) ⊎ (32 * at + first ≤ n) → has parts n ≡ false
    go (inl early) = before n after early
    go (inr late) =
        let k : ℕ = n - 32 * at in
        let here_is : n ≡ 32 * at + k = omega (arith, late) in
        ap (λ (m : ℕ). has parts m) here_is
        ∙ at_part parts at d numbers h is k (omega (arith, less, small, late))
        ∙ sym (of_front k ∙ inside (part.has numbers k) k first (omega (arith, late)) (omega (arith, less, small, late)))
        ∙ here k (omega (arith, less, late))
