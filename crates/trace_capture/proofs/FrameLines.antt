-- The parts of a line that is that of a frame.
use Rattle.std.specs.Prelude.{◌≡◌, ℕ, ◌+◌, ◌-◌, ◌≤◌, ◌<◌, List, [], ◌∷◌, ◌++◌, length, All, not, true, nat_lt, Some}
use Rattle.std.proofs.lemmas.Bool.{lt-ltb}
use Rattle.std.specs.List.{flat_map, position_or_len, slice_get}
use Rattle.std.specs.Char.{is_ascii_digit}
use Rattle.std.proofs.Common.{arith, get_or, take, drop, ap, sym, subst, ◌∙◌, take_all, refl, length-append}
use Rattle.std.proofs.Math.Seq.{drop-append_seam}
use Rattle.frame_lines.specs.declared.line.Direction.{Direction}
use Rattle.trace_capture.specs.Trace.{spaced, sign_of, frame_line, number_end, is_traced, AreOctets, IsNumber, IsFrameLine}
use Rattle.trace_capture.proofs.Octets.{behind_first}

-- the place of the first octet that is no digit
digits_end : (digits rest : List ℕ) → All (λ digit. is_ascii_digit digit ≡ true) digits
    → position_or_len (λ octet. not (is_ascii_digit octet)) (digits ++ 32 ∷ rest) ≡ length digits
digits_end [] rest each = refl
digits_end (digit ∷ digits) rest each =
    let first : is_ascii_digit digit ≡ true = each 0 digit (omega arith) in
    rw first (ap (λ n. 1 + n) (digits_end digits rest (behind_first (λ d. is_ascii_digit d ≡ true) digit digits each))
    ∙ omega arith)

-- what is there
space_there : (digits rest : List ℕ) → slice_get (digits ++ 32 ∷ rest) (length digits) ≡ Some 32
space_there [] rest = refl
space_there (digit ∷ digits) rest = space_there digits rest

ends_there : (digits rest : List ℕ) → All (λ digit. is_ascii_digit digit ≡ true) digits
    → number_end (digits ++ 32 ∷ rest) ≡ length digits
ends_there digits rest each =
    let less : length digits < length (digits ++ 32 ∷ rest) = omega (arith, length-append digits (32 ∷ rest)) in
    let within : nat_lt (length digits) (length (digits ++ 32 ∷ rest)) ≡ true = lt-ltb _ _ less in
    rw (digits_end digits rest each, within) refl

-- it begins with a number and a space, and what is behind the number is a space, a sign and octets
pub record Parts (line rest : List ℕ) : Type 0 where
  pub few : number_end line ≤ 5
  pub traced : is_traced line ≡ true
  pub long : 2 ≤ length rest
  pub space : get_or rest 0 0 ≡ 32
  pub direction : Direction
  pub sign : get_or rest 1 0 ≡ sign_of direction
  pub octets : List ℕ
  pub are : AreOctets octets
  pub spelled : take (length rest - 2) (drop 2 rest) ≡ flat_map spaced octets

parts_of : (digits octets : List ℕ) (direction : Direction) (rest : List ℕ) → IsNumber digits → AreOctets octets
    → rest ≡ 32 ∷ sign_of direction ∷ flat_map spaced octets → Parts (frame_line digits direction octets) rest
parts_of digits octets direction rest number are d =
    let tail : List ℕ = sign_of direction ∷ flat_map spaced octets in
    let e : number_end (digits ++ 32 ∷ tail) ≡ length digits = ends_there digits tail number.each in
    let some : nat_lt 0 (length digits) ≡ true = lt-ltb _ _ number.some in
    record {
      few = omega (arith, e, number.fit);
      traced = rw (e, some, space_there digits tail) refl;
      long = omega (arith, ap length d);
      space = ap (λ t. get_or t 0 0) d;
      direction = direction;
      sign = ap (λ t. get_or t 1 0) d;
      octets = octets;
      are = are;
      spelled = ap (λ t. take (length t - 2) (drop 2 t)) d ∙ take_all _ _ (omega arith);
    }

rest_of : (digits octets : List ℕ) (direction : Direction) (rest : List ℕ) → IsNumber digits
    → rest ≡ drop (number_end (frame_line digits direction octets)) (frame_line digits direction octets)
    → rest ≡ 32 ∷ sign_of direction ∷ flat_map spaced octets
rest_of digits octets direction rest number is =
    let tail : List ℕ = sign_of direction ∷ flat_map spaced octets in
    let e : number_end (digits ++ 32 ∷ tail) ≡ length digits = ends_there digits tail number.each in
    is ∙ rw e (drop-append_seam digits (32 ∷ tail))

pub frame_parts : (line rest : List ℕ) (end : ℕ) → end ≡ number_end line → rest ≡ drop end line → IsFrameLine line
    → Parts line rest
frame_parts line rest end ends is_rest is =
    let Rest : List ℕ → Type 0 = λ l. rest ≡ drop (number_end l) l in
    let there : Rest line = is_rest ∙ ap (λ n. drop n line) ends in
    let Whole : List ℕ → Type 0 = λ l. Parts l rest in
    subst Whole (sym is.spelled) (parts_of is.digits is.octets is.direction rest is.number is.are
    (rest_of is.digits is.octets is.direction rest is.number (subst Rest is.spelled there)))
