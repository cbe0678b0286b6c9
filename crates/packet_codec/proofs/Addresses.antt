-- Lists of digits: an address keeps its digits before zeros, and the characters 0 to 9 are worth digits.
use Rattle.std.proofs.Common.{◌≡◌, ℕ, ◌-◌, ◌≤◌, Bool, true, false, leb, List, [], ◌∷◌, ◌++◌, length, take, drop, replicate, refl, sym, ap, ◌∙◌, arith, IsTrue}
use Rattle.std.specs.Prelude.{◌&&◌}
use Rattle.std.specs.Char.{is_ascii_digit}
use Rattle.std.proofs.lemmas.Bool.Decides.{nat_tests}
use Rattle.std.proofs.lemmas.List.{take_at, drop-replicate, length-map}
use Rattle.packet_codec.specs.Address.{AreDigits, IsAddress, padded, are_decimal, are_digits, digit_values}

pub is_address : (digits : List ℕ) → AreDigits digits
    → IsAddress record { digits = digits ++ drop (length digits) (replicate 15 0); len = length digits }
is_address digits are =
    let front : take (length digits) (digits ++ drop (length digits) (replicate 15 0)) ≡ digits =
    take_at digits (drop (length digits) (replicate 15 0)) (length digits) refl in
    record {
      are_digits = rw front are;
      len = ap length front;
      rest = ap padded front ∙ ap (λ (zeros : List ℕ). digits ++ zeros) (sym (drop-replicate (length digits) 15 0));
    }

pub and_true : (a b : Bool) → IsTrue (a && b) → IsTrue a × IsTrue b
and_true true b h = (refl, h)
and_true false b h = absurd (cc)

pub true_and : (a b : Bool) → IsTrue a → IsTrue b → IsTrue (a && b)
true_and true b h k = k
true_and false b h k = absurd (cc)

decimal_of : (octet : ℕ) → IsTrue (is_ascii_digit octet) → IsTrue (leb (octet - 48) 9)
decimal_of octet h = grind (arith, nat_tests)

pub are_decimal-digit_values : (text : List ℕ) → IsTrue (are_digits text) → IsTrue (are_decimal (digit_values text))
are_decimal-digit_values [] h = h
are_decimal-digit_values (octet ∷ text) h =
    let both = and_true (is_ascii_digit octet) (are_digits text) h in
    true_and (leb (octet - 48) 9) (are_decimal (digit_values text)) (decimal_of octet both.0)
    (are_decimal-digit_values text both.1)

pub AreDigits-digit_values : (text : List ℕ) → 1 ≤ length text → length text ≤ 15 → IsTrue (are_digits text)
    → AreDigits (digit_values text)
AreDigits-digit_values text low high h =
    let len : length (digit_values text) ≡ length text = simp length-map in
    (omega arith, omega arith, are_decimal-digit_values text h)
