-- The first place at which an octet of a kind stands, as a search finds it.
use Rattle.std.proofs.Common.{◌≡◌, ℕ, suc, ◌+◌, ◌<◌, ◌≤◌, Bool, true, false, cond, ◌==◌, nat_lt, List, ◌∷◌, length, Option, Some, None, option_map, refl, ap, arith}
use Rattle.std.specs.Prelude.{position}
use Rattle.std.specs.List.{position_or_len}
use Rattle.std.proofs.lemmas.Bool.{false_from_ne_true}
use Rattle.std.proofs.lemmas.List.Sums.{position_or_len_is}
use borrow.Author.Tests.{lt-ltb, ltb-true, ltb-false}
use Rattle.memchr.specs.Find.{IsFirstByte, is_byte}

pub irreflexive : (n : ℕ) → nat_lt n n ≡ false
irreflexive n = grind arith

-- the place that a search answers is the position
pub place_found : (at : ℕ) (octets : List ℕ) (o : Option ℕ) → IsFirstByte (is_byte at) octets o → o ≡ position (λ octet. octet == at) octets
place_found at octets None none =
    let end : position_or_len (λ octet. octet == at) octets ≡ length octets = position_or_len_is (λ octet. octet == at) octets (length octets) 0
    (omega arith) (λ k lt. false_from_ne_true _ (none k (omega arith) lt)) (λ lt. absurd (omega (arith, lt))) in
    rw (end, irreflexive (length octets)) refl
place_found at octets (Some place) found =
    let within : place < length octets = found.0.high in
    let here : position_or_len (λ octet. octet == at) octets ≡ place = position_or_len_is (λ octet. octet == at) octets place 0
    (omega (arith, within)) (λ k lt. false_from_ne_true _ (found.0.before k (omega arith) lt)) (λ lt. found.1) in
    rw (here, lt-ltb _ _ within) refl

-- ---- in a list with one octet more in front

pub position_first : (p : ℕ → Bool) (x : ℕ) (xs : List ℕ) → p x ≡ true → position p (x ∷ xs) ≡ Some 0
position_first p x xs is =
    let within : nat_lt 0 (length (x ∷ xs)) ≡ true = lt-ltb _ _ (omega arith) in
    rw (is, within) refl

pub position_next : (p : ℕ → Bool) (x : ℕ) (xs : List ℕ) → p x ≡ false → position p (x ∷ xs) ≡ option_map suc (position p xs)
position_next p x xs is = rw is (go (nat_lt (position_or_len p xs) (length xs)) refl)
  where
    go : (b : Bool) → nat_lt (position_or_len p xs) (length xs) ≡ b
        → cond (nat_lt (1 + position_or_len p xs) (length (x ∷ xs))) (Some (1 + position_or_len p xs)) None
        ≡ option_map suc (cond b (Some (position_or_len p xs)) None)
    go true within =
        let lt : position_or_len p xs < length xs = ltb-true _ _ within in
        rw (lt-ltb (1 + position_or_len p xs) (length (x ∷ xs)) (omega (arith, lt))) (ap Some (omega arith))
    go false beyond =
        let le : length xs ≤ position_or_len p xs = ltb-false _ _ beyond in
        let no : nat_lt (1 + position_or_len p xs) (length (x ∷ xs)) ≡ false = grind (arith, le) in
        rw no refl
