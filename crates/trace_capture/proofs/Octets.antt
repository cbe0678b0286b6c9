-- Octets of which some were read, and those that are left.
use Rattle.std.specs.Prelude.{◌≡◌, ℕ, ◌+◌, ◌-◌, ◌≤◌, ◌<◌, ◌/◌, ◌%◌, List, [], ◌∷◌, length, All, Result, Ok, Err, OnErr}
use Rattle.std.specs.List.{flat_map}
use Rattle.std.proofs.Common.{arith, get_or, take, drop, ap, ◌∙◌, take_all, inl, inr, ◌⊎◌, suc}
use Rattle.trace_capture.specs.Trace.{spaced, hex_digit}

-- a text spells octets, no more than there is room for behind those that were read
pub record Left (text : List ℕ) (count : ℕ) : Type 0 where
  pub octets : List ℕ
  pub each : All (λ octet. octet < 256) octets
  pub fit : count + length octets ≤ 1030
  pub spelled : text ≡ flat_map spaced octets

-- its first octet, and what is behind that
pub record First (text : List ℕ) (count : ℕ) : Type 0 where
  pub octet : ℕ
  pub below : octet < 256
  pub high_is : get_or text 1 0 ≡ hex_digit (octet / 16)
  pub low_is : get_or text 2 0 ≡ hex_digit (octet % 16)
  pub room : count < 1030
  pub others_left : Left (take (length text - 3) (drop 3 text)) (count + 1)

pub behind_first : {X : Type 0} (P : X → Type 0) (x : X) (xs : List X) → All P (x ∷ xs) → All P xs
behind_first P x xs each k d less = each (suc k) d (omega arith)

first_of : (text : List ℕ) (count : ℕ) (octets : List ℕ) → 3 ≤ length text
    → All (λ octet. octet < 256) octets → count + length octets ≤ 1030
    → text ≡ flat_map spaced octets → First text count
first_of text count [] long each fit spelled = absurd (omega (arith, ap length spelled))
first_of text count (octet ∷ octets) long each fit spelled = record {
  octet = octet;
  below = each 0 0 (omega arith);
  high_is = ap (λ t. get_or t 1 0) spelled;
  low_is = ap (λ t. get_or t 2 0) spelled;
  room = omega arith;
  others_left = record {
    octets = octets;
    each = behind_first (λ o. o < 256) octet octets each;
    fit = omega arith;
    spelled = ap (λ t. take (length t - 3) (drop 3 t)) spelled ∙ take_all _ _ (omega arith);
  };
}

pub first_left : (text : List ℕ) (count : ℕ) → 3 ≤ length text → Left text count → First text count
first_left text count long left = first_of text count left.octets long left.each left.fit left.spelled

-- it is empty, or has three octets and begins with a space
pub spelled_so : (text : List ℕ) (octets : List ℕ) → text ≡ flat_map spaced octets
    → (length text ≡ 0) ⊎ ((3 ≤ length text) × (get_or text 0 0 ≡ 32))
spelled_so text [] spelled = inl (ap length spelled)
spelled_so text (octet ∷ octets) spelled = inr (omega (arith, ap length spelled), ap (λ t. get_or t 0 0) spelled)

pub on_err : {T E : Type 0} (r : Result T E) (P : Type 0) → P → OnErr r P
on_err (Ok x) P p = tt
on_err (Err e) P p = p
