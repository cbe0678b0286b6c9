-- The bits of a number as a set.
use Rattle.std.proofs.Common.{◌≡◌, ℕ, zero, suc, ◌+◌, ◌*◌, ◌^◌, ◌%◌, ◌<◌, ◌≤◌, Bool, false, not, ◌&&◌, ◌||◌, ◌==◌, ◌⊎◌}
use Rattle.std.proofs.Common.{inl, inr, refl, sym, ap, ap₂, ◌∙◌, arith, max, ◌-◌}
use Rattle.std.specs.Prelude.{bit_and, bit_or, bit_xor, nat_lt, true}
use Rattle.std.specs.Bool.{OnFalse}
use Rattle.std.specs.Int.{bit_at, w64, trailing_zeros, bit_not}
use Rattle.std.proofs.lemmas.Bool.{eqb-false, eq-eqb, ne_eqb, cases_eq, cases_lt, lt-ltb, le-ltb}
use Rattle.std.proofs.lemmas.Nat.{one_shl, pow_pos}
use Rattle.std.proofs.Math.Nat.{pow-le-pow_right}
use Rattle.std.proofs.lemmas.Nat.Bits.{bit_at-lt, bit_at-pow_same, bit_at-pow_other, bit_at_or, bit_at_xor}
use Rattle.std.proofs.lemmas.Nat.Bits.{bit_at-trailing_zeros, and_pow, bit_at_and, bit_at_above}
use Rattle.std.proofs.lemmas.Nat.Bits.{bit_at_clear_same, bit_at_clear_other, bit_at_mask_inside, bit_at_mask_below}
use Rattle.std.proofs.lemmas.Nat.Bits.{bit_at_mask_above}
use lib.Bits.{xor_add_and}
use Rattle.number_set.specs.declared.NumberSet.{NumberSet}
use Rattle.number_set.specs.NumberSet.{IsFirstOf}

by_bits : (P : ℕ → ℕ → Type 0) → P 0 0 → P 0 1 → P 1 0 → P 1 1 → (a b : ℕ) → a < 2 → b < 2 → P a b
by_bits P oo oi io ii zero zero f g = oo
by_bits P oo oi io ii zero (suc zero) f g = oi
by_bits P oo oi io ii (suc zero) zero f g = io
by_bits P oo oi io ii (suc zero) (suc zero) f g = ii
by_bits P oo oi io ii zero (suc (suc b)) f g = absurd (omega arith)
by_bits P oo oi io ii (suc zero) (suc (suc b)) f g = absurd (omega arith)
by_bits P oo oi io ii (suc (suc a)) b f g = absurd (omega arith)

abbrev bit : ℕ → ℕ → Bool
bit a n = bit_at a n == 1

-- the number with one bit alone
one_bit : (k n : ℕ) → bit (2 ^ k) n ≡ (n == k)
one_bit k n = go (cases_eq n k)
  where
    go : (n ≡ k) ⊎ (n ≡ k → ⊥) → bit (2 ^ k) n ≡ (n == k)
    go (inl e) = ap (λ (x : ℕ). x == 1) (ap (λ (m : ℕ). bit_at (2 ^ k) m) e ∙ bit_at-pow_same k) ∙ sym (eq-eqb n k e)
    go (inr apart) = ap (λ (x : ℕ). x == 1) (bit_at-pow_other k n apart) ∙ sym (ne_eqb n k apart)

pub bits_of_both : (a b n : ℕ) → bit (bit_or a b) n ≡ (bit a n || bit b n)
bits_of_both a b n =
    ap (λ (x : ℕ). x == 1) (bit_at_or a b n)
    ∙ by_bits (λ x y. (max x y == 1) ≡ ((x == 1) || (y == 1))) refl refl refl refl (bit_at a n) (bit_at b n)
    (bit_at-lt a n) (bit_at-lt b n)

pub bits_with : (a k n : ℕ) → k < 64 → bit (bit_or a (1 * 2 ^ k % 18446744073709551616)) n ≡ (bit a n || n == k)
bits_with a k n h =
    ap (λ (m : ℕ). bit (bit_or a m) n) (one_shl k 64 h) ∙ bits_of_both a (2 ^ k) n
    ∙ ap (λ (b : Bool). bit a n || b) (one_bit k n)

bits_but : (a k n : ℕ) → bit_at a k ≡ 1 → bit (bit_xor a (2 ^ k)) n ≡ (bit a n && not (n == k))
bits_but a k n there =
    ap (λ (x : ℕ). x == 1) (bit_at_xor a (2 ^ k) n) ∙ go (cases_eq n k)
  where
    go : (n ≡ k) ⊎ (n ≡ k → ⊥) → ((bit_at a n + bit_at (2 ^ k) n) % 2 == 1) ≡ (bit a n && not (n == k))
    go (inl e) =
        ap₂ (λ (x y : ℕ). (x + y) % 2 == 1) (ap (λ (m : ℕ). bit_at a m) e ∙ there) (ap (λ (m : ℕ). bit_at (2 ^ k) m) e
        ∙ bit_at-pow_same k)
        ∙ sym (ap₂ (λ (x : ℕ) (b : Bool). (x == 1) && not b) (ap (λ (m : ℕ). bit_at a m) e ∙ there) (eq-eqb n k e))
    go (inr apart) =
        ap (λ (y : ℕ). (bit_at a n + y) % 2 == 1) (bit_at-pow_other k n apart)
        ∙ by_bits (λ x y. ((x + 0) % 2 == 1) ≡ ((x == 1) && not false)) refl refl refl refl (bit_at a n) 0
        (bit_at-lt a n) (omega arith)
        ∙ sym (ap (λ (b : Bool). bit a n && not b) (ne_eqb n k apart))

-- the lowest bit is taken out
abbrev lowest : ℕ → ℕ
lowest a = trailing_zeros w64 a

shifted : (a : ℕ) → 0 < a → a < 2 ^ 64 → 1 * 2 ^ lowest a % 18446744073709551616 ≡ 2 ^ lowest a
shifted a some fits = one_shl (lowest a) 64 (bit_at-trailing_zeros w64 a some fits).0

pub first_of : (s : NumberSet) → 0 < s.bits → s.bits < 2 ^ 64 →
    IsFirstOf s (lowest s.bits) (record { bits = bit_xor s.bits (1 * 2 ^ lowest s.bits % 18446744073709551616) })
first_of s some fits =
    let low = bit_at-trailing_zeros w64 s.bits some fits in
    record {
      there = ap (λ (x : ℕ). x == 1) low.1;
      first = λ n less. ap (λ (x : ℕ). x == 1) (low.2 n less);
      others = λ n. ap (λ (m : ℕ). bit (bit_xor s.bits m) n) (shifted s.bits some fits)
          ∙ bits_but s.bits (lowest s.bits) n low.1;
    }

pub fewer : (a : ℕ) → 0 < a → a < 2 ^ 64 → bit_xor a (1 * 2 ^ lowest a % 18446744073709551616) < a
fewer a some fits =
    let k = lowest a in
    let low = bit_at-trailing_zeros w64 a some fits in
    let both : bit_and a (2 ^ k) ≡ 2 ^ k = and_pow a k ∙ ap (λ (x : ℕ). x * 2 ^ k) low.1 ∙ omega arith in
    let sum = xor_add_and a (2 ^ k) in
    let pos = pow_pos k in
    let is = ap (λ (m : ℕ). bit_xor a m) (shifted a some fits) in
    omega (arith, both, sum, pos, is)

-- those so far and one more
pub one_more : (a k n : ℕ) → (bit a n ≡ nat_lt n k) → (bit a n || n == k) ≡ nat_lt n (k + 1)
one_more a k n is = ap (λ (b : Bool). b || n == k) is ∙ go (cases_lt n k) (cases_eq n k)
  where
    go : (n < k) ⊎ (k ≤ n) → (n ≡ k) ⊎ (n ≡ k → ⊥) → (nat_lt n k || n == k) ≡ nat_lt n (k + 1)
    go (inl less) other = ap (λ (b : Bool). b || n == k) (lt-ltb n k less) ∙ sym (lt-ltb n (k + 1) (omega arith))
    go (inr least) (inl e) = ap₂ (λ (a b : Bool). a || b) (le-ltb n k least) (eq-eqb n k e)
        ∙ sym (lt-ltb n (k + 1) (omega arith))
    go (inr least) (inr apart) =
        ap₂ (λ (a b : Bool). a || b) (le-ltb n k least) (ne_eqb n k apart)
        ∙ sym (le-ltb n (k + 1) (omega (arith, apart)))

and_true : (b : Bool) → (b && true) ≡ b
and_true true = refl
and_true false = refl

and_false : (b : Bool) → (b && false) ≡ false
and_false true = refl
and_false false = refl

-- no bit from the 64th on
none_above : (a n : ℕ) → a < 2 ^ 64 → 64 ≤ n → bit a n ≡ false
none_above a n fits high = ap (λ (x : ℕ). x == 1) (bit_at_above a 64 n fits high)

none_of_both : (a m n : ℕ) → a < 2 ^ 64 → 64 ≤ n → bit (bit_and a m) n ≡ false
none_of_both a m n fits high =
    let zero_bit = bit_at_above a 64 n fits high in
    let both : bit_at (bit_and a m) n ≡ 0 = bit_at_and a m n ∙ omega (arith, zero_bit) in
    ap (λ (x : ℕ). x == 1) both

-- a bit is cleared
pub bits_without : (a k n : ℕ) → a < 2 ^ 64 → k < 64 →
    bit (bit_and a (bit_not w64 (1 * 2 ^ k % 18446744073709551616))) n ≡ (bit a n && not (n == k))
bits_without a k n fits h = go (cases_eq n k) (cases_lt n 64)
  where
    cleared : ℕ
    cleared = bit_and a (bit_not w64 (1 * 2 ^ k % 18446744073709551616))

    go : (n ≡ k) ⊎ (n ≡ k → ⊥) → (n < 64) ⊎ (64 ≤ n) → bit cleared n ≡ (bit a n && not (n == k))
    go (inl e) other =
        ap (λ (x : ℕ). x == 1) (ap (λ (m : ℕ). bit_at cleared m) e ∙ bit_at_clear_same w64 a k h)
        ∙ sym (ap (λ (b : Bool). bit a n && not b) (eq-eqb n k e) ∙ and_false (bit a n))
    go (inr apart) (inl low) =
        ap (λ (x : ℕ). x == 1) (bit_at_clear_other w64 a k h n low apart)
        ∙ sym (ap (λ (b : Bool). bit a n && not b) (ne_eqb n k apart) ∙ and_true (bit a n))
    go (inr apart) (inr high) =
        none_of_both a (bit_not w64 (1 * 2 ^ k % 18446744073709551616)) n fits high
        ∙ sym (ap (λ (b : Bool). b && not (n == k)) (none_above a n fits high))

-- the bits from one up to another
mask_is : (k m : ℕ) → k ≤ m → m < 64 → 1 * 2 ^ m % 18446744073709551616 - 1 * 2 ^ k % 18446744073709551616 ≡ 2 ^ m - 2 ^ k
mask_is k m order most = ap₂ (λ (x y : ℕ). x - y) (one_shl m 64 most) (one_shl k 64 (omega arith))

pub mask_fits : (k m : ℕ) → k ≤ m → m < 64 → 1 * 2 ^ k % 18446744073709551616 ≤ 1 * 2 ^ m % 18446744073709551616
mask_fits k m order most = rw (one_shl m 64 most, one_shl k 64 (omega arith)) (pow-le-pow_right {n = 2} (omega arith) order)

of_mask : (a k m n : ℕ) → bit (bit_and a (2 ^ m - 2 ^ k)) n ≡ (bit a n && (not (nat_lt n k) && nat_lt n m))
of_mask a k m n = go (cases_lt n k) (cases_lt n m)
  where
    masked : ℕ
    masked = bit_and a (2 ^ m - 2 ^ k)

    go : (n < k) ⊎ (k ≤ n) → (n < m) ⊎ (m ≤ n) → bit masked n ≡ (bit a n && (not (nat_lt n k) && nat_lt n m))
    go (inl low) other =
        let out = bit_at_mask_below k m n low in
        let both : bit_at masked n ≡ 0 = bit_at_and a (2 ^ m - 2 ^ k) n ∙ omega (arith, out) in
        ap (λ (x : ℕ). x == 1) both
        ∙ sym (ap (λ (b : Bool). bit a n && (not b && nat_lt n m)) (lt-ltb n k low) ∙ and_false (bit a n))
    go (inr least) (inl less) =
        let there = bit_at_mask_inside k m n least less in
        let small = bit_at-lt a n in
        let both : bit_at masked n ≡ bit_at a n = bit_at_and a (2 ^ m - 2 ^ k) n ∙ omega (arith, there, small) in
        ap (λ (x : ℕ). x == 1) both
        ∙ sym (ap₂ (λ (b c : Bool). bit a n && (not b && c)) (le-ltb n k least) (lt-ltb n m less) ∙ and_true (bit a n))
    go (inr least) (inr high) =
        let out = bit_at_mask_above k m n high in
        let both : bit_at masked n ≡ 0 = bit_at_and a (2 ^ m - 2 ^ k) n ∙ omega (arith, out) in
        ap (λ (x : ℕ). x == 1) both
        ∙ sym (ap₂ (λ (b c : Bool). bit a n && (not b && c)) (le-ltb n k least) (le-ltb n m high) ∙ and_false (bit a n))

pub bits_between : (a k m n : ℕ) → k ≤ m → m < 64 →
    bit (bit_and a (1 * 2 ^ m % 18446744073709551616 - 1 * 2 ^ k % 18446744073709551616)) n
    ≡ (bit a n && (not (nat_lt n k) && nat_lt n m))
bits_between a k m n order most =
    ap (λ (x : ℕ). bit (bit_and a x) n) (mask_is k m order most) ∙ of_mask a k m n

-- a number that is not 0 has a bit
pub some_bit : (s : NumberSet) → s.bits < 2 ^ 64 → OnFalse (s.bits == 0) ((n : ℕ) × (n < 64) × (bit s.bits n ≡ true))
some_bit s fits = go (s.bits == 0) refl
  where
    go : (b : Bool) → (s.bits == 0) ≡ b → OnFalse b ((n : ℕ) × (n < 64) × (bit s.bits n ≡ true))
    go true none = tt
    go false some =
        let low = bit_at-trailing_zeros w64 s.bits (omega (arith, eqb-false s.bits 0 some)) fits in
        (lowest s.bits, low.0, ap (λ (x : ℕ). x == 1) low.1)
