-- Call blocks: the parts of a block that was written are those that were put in, and a block that can be read is
-- written of its parts.
use Rattle.std.proofs.Common.{◌≡◌, ℕ, zero, suc, ◌+◌, ◌*◌, ◌/◌, ◌%◌, ◌<◌, ◌≤◌, true, ltb, leb, ltb-true, leb-true, le-leb, lt-ltb, List, [], ◌∷◌, ◌++◌, length, take, drop, refl, sym, ap, ◌∙◌, arith, IsTrue}
use Rattle.std.specs.Prelude.{◌&&◌}
use Rattle.std.proofs.lemmas.List.{take_at, drop_at, take-append-drop, length-append, length-take, length-drop}
use Rattle.std.proofs.lemmas.List.Folds.{list_all-append}
use Rattle.packet_codec.specs.Address.{MayBeDigits, are_decimal}
use Rattle.packet_codec.specs.Packet.{packed, address_part, facility_part}
use Rattle.packet_codec.specs.Reading.{octet, called_length, calling_length, address_octets, half_octets, digits, after_addresses, has_addresses, has_facilities, facilities_of, user_data_of}
use Rattle.packet_codec.proofs.Addresses.{and_true, true_and}

-- ---- digits two by two

pub length-packed : (spare : ℕ) (ds : List ℕ) → length (packed spare ds) ≡ (length ds + 1) / 2
length-packed spare [] = refl
length-packed spare (d ∷ []) = refl
length-packed spare (high ∷ low ∷ ds) = let rest = length-packed spare ds in omega arith

-- each is a half octet
abbrev pub AreHalves : List ℕ → Type 0
AreHalves [] = Unit {0}
AreHalves (d ∷ ds) = (d < 16) × AreHalves ds

pub AreHalves-decimal : (ds : List ℕ) → IsTrue (are_decimal ds) → AreHalves ds
AreHalves-decimal [] h = tt
AreHalves-decimal (d ∷ ds) h =
    let both = and_true (leb d 9) (are_decimal ds) h in
    let low = leb-true d 9 both.0 in
    (omega arith, AreHalves-decimal ds both.1)

pub halves-packed : (spare : ℕ) (ds : List ℕ) → spare < 16 → AreHalves ds
    → take (length ds) (half_octets (packed spare ds)) ≡ ds
halves-packed spare [] low h = refl
halves-packed spare (d ∷ []) low h = λ i. divided i ∷ []
  where
    divided : (16 * d + spare) / 16 ≡ d
    divided = omega arith
halves-packed spare (high ∷ low ∷ ds) small h =
    let fits = h.1.0 in
    let first : (16 * high + low) / 16 ≡ high = omega arith in
    let second : (16 * high + low) % 16 ≡ low = omega arith in
    let rest = halves-packed spare ds small h.1.1 in
    λ i. first i ∷ second i ∷ rest i

-- the half octet behind an odd last digit
abbrev pub spare_of : List ℕ → ℕ
spare_of [] = 0
spare_of (o ∷ []) = o % 16
spare_of (o ∷ p ∷ os) = spare_of (p ∷ os)

pub spare_of-half : (os : List ℕ) → spare_of os < 16
spare_of-half [] = omega arith
spare_of-half (o ∷ []) = omega arith
spare_of-half (o ∷ p ∷ os) = spare_of-half (p ∷ os)

pub packed-halves : (os : List ℕ) (k : ℕ) → (k + 1) / 2 ≡ length os
    → packed (spare_of os) (take k (half_octets os)) ≡ os
packed-halves [] zero e = refl
packed-halves [] (suc k) e = absurd (omega arith)
packed-halves (o ∷ os) zero e = absurd (omega arith)
packed-halves (o ∷ []) (suc zero) e = λ i. whole i ∷ []
  where
    whole : 16 * (o / 16) + o % 16 ≡ o
    whole = omega arith
packed-halves (o ∷ p ∷ os) (suc zero) e = absurd (omega arith)
packed-halves (o ∷ []) (suc (suc zero)) e = λ i. whole i ∷ []
  where
    whole : 16 * (o / 16) + o % 16 ≡ o
    whole = omega arith
packed-halves (o ∷ []) (suc (suc (suc k))) e = absurd (omega arith)
packed-halves (o ∷ p ∷ os) (suc (suc k)) e =
    let whole : 16 * (o / 16) + o % 16 ≡ o = omega arith in
    let rest = packed-halves (p ∷ os) k (omega arith) in
    λ i. whole i ∷ rest i

pub length-half_octets : (os : List ℕ) → length (half_octets os) ≡ 2 * length os
length-half_octets [] = refl
length-half_octets (o ∷ os) = let rest = length-half_octets os in omega arith

-- ---- a block that was written

pub record IsBlock (block called calling tail : List ℕ) : Type 0 where
  pub called_is : called_length block ≡ length called
  pub calling_is : calling_length block ≡ length calling
  pub digits_are : digits block ≡ called ++ calling
  pub after_is : after_addresses block ≡ tail
  pub whole : has_addresses block ≡ true

pub IsBlock-address_part : (spare : ℕ) (called calling tail : List ℕ) → spare < 16 → length called ≤ 15
    → length calling ≤ 15 → AreHalves (called ++ calling)
    → IsBlock (address_part spare called calling ++ tail) called calling tail
IsBlock-address_part spare called calling tail small short short' halves =
    let block = address_part spare called calling ++ tail in
    let ds = called ++ calling in
    let called_is : called_length block ≡ length called = omega arith in
    let calling_is : calling_length block ≡ length calling = omega arith in
    let sum = length-append called calling in
    let len = length-packed spare ds in
    let octets : length (packed spare ds) ≡ address_octets block = omega arith in
    let front : take (address_octets block) (packed spare ds ++ tail) ≡ packed spare ds =
    take_at (packed spare ds) tail (address_octets block) octets in
    let count : called_length block + calling_length block ≡ length ds = omega arith in
    let all = length-append (packed spare ds) tail in
    record {
      called_is = called_is;
      calling_is = calling_is;
      digits_are = rw front (rw count (halves-packed spare ds small halves));
      after_is = drop_at (packed spare ds) tail (address_octets block) octets;
      whole = lt-ltb _ _ (omega arith);
    }

AreHalves-append : (xs ys : List ℕ) → AreHalves xs → AreHalves ys → AreHalves (xs ++ ys)
AreHalves-append [] ys a b = b
AreHalves-append (x ∷ xs) ys a b = (a.0, AreHalves-append xs ys a.1 b)

are_decimal-append : (xs ys : List ℕ) → are_decimal (xs ++ ys) ≡ (are_decimal xs && are_decimal ys)
are_decimal-append xs ys = list_all-append (λ d. leb d 9) xs ys

-- two addresses, one of them perhaps missing
pub record AreAddresses (called calling : List ℕ) : Type 0 where
  pub are_called : MayBeDigits called
  pub are_calling : MayBeDigits calling

pub block_of : (spare : ℕ) (called calling tail : List ℕ) → spare < 16 → AreAddresses called calling
    → IsBlock (address_part spare called calling ++ tail) called calling tail
block_of spare called calling tail small a =
    IsBlock-address_part spare called calling tail small a.are_called.0 a.are_calling.0
    (AreHalves-append called calling (AreHalves-decimal called a.are_called.1)
    (AreHalves-decimal calling a.are_calling.1))

pub decimal_block : (block called calling tail : List ℕ) → IsBlock block called calling tail
    → AreAddresses called calling → are_decimal (digits block) ≡ true
decimal_block block called calling tail b a =
    ap are_decimal b.digits_are ∙ are_decimal-append called calling
    ∙ true_and (are_decimal called) (are_decimal calling) a.are_called.1 a.are_calling.1

-- ---- facilities

pub record AreFacilities (after facilities user_data : List ℕ) : Type 0 where
  pub whole : has_facilities after ≡ true
  pub facilities_are : facilities_of after ≡ facilities
  pub user_data_are : user_data_of after ≡ user_data

pub facilities_written : (facilities user_data : List ℕ) → length facilities ≤ 109
    → AreFacilities (facility_part facilities ++ user_data) facilities user_data
facilities_written facilities user_data short =
    let all = length-append facilities user_data in
    record {
      whole = true_and (ltb (length facilities) (length (facility_part facilities ++ user_data)))
          (leb (length facilities) 109) (lt-ltb _ _ (omega arith)) (le-leb _ _ short);
      facilities_are = take_at facilities user_data (length facilities) refl;
      user_data_are = drop_at facilities user_data (length facilities) refl;
    }

pub facilities_read : (after : List ℕ) → has_facilities after ≡ true
    → (after ≡ facility_part (facilities_of after) ++ user_data_of after) × (length (facilities_of after) ≤ 109)
facilities_read [] h = absurd (cc)
facilities_read (n ∷ rest) h =
    let both = and_true (ltb n (length (n ∷ rest))) (leb n 109) h in
    let within = ltb-true n (length (n ∷ rest)) both.0 in
    let short = leb-true n 109 both.1 in
    let len : length (take n rest) ≡ n = omega (arith, length-take n rest) in
    (λ i. sym len i ∷ sym (take-append-drop n rest) i, omega arith)

-- ---- a block that can be read

pub record Splits (block : List ℕ) : Type 0 where
  pub called_len : length (take (called_length block) (digits block)) ≡ called_length block
  pub calling_len : length (drop (called_length block) (digits block)) ≡ calling_length block
  pub written : block ≡ address_part (spare_of (take (address_octets block) (drop 1 block)))
      (take (called_length block) (digits block)) (drop (called_length block) (digits block)) ++ after_addresses block

pub splits : (block : List ℕ) → octet 1 block < 256 → has_addresses block ≡ true → Splits block
splits [] low h = absurd (cc)
splits (l ∷ rest) low h =
    let block = l ∷ rest in
    let n = address_octets block in
    let ds = digits block in
    let within = ltb-true n (length block) h in
    let os = take n rest in
    let octets : length os ≡ n = omega (arith, length-take n rest) in
    let halves = length-half_octets os in
    let count : length ds ≡ l % 16 + l / 16 = omega (arith, length-take (l % 16 + l / 16) (half_octets os)) in
    let called_len : length (take (l % 16) ds) ≡ l % 16 = omega (arith, length-take (l % 16) ds) in
    let calling_len : length (drop (l % 16) ds) ≡ l / 16 = omega (arith, length-drop (l % 16) ds) in
    let lengths : 16 * length (drop (l % 16) ds) + length (take (l % 16) ds) ≡ l = omega arith in
    let joined : take (l % 16) ds ++ drop (l % 16) ds ≡ ds = take-append-drop (l % 16) ds in
    let packs : packed (spare_of os) ds ≡ os = packed-halves os (l % 16 + l / 16) (sym octets) in
    let tail : packed (spare_of os) (take (l % 16) ds ++ drop (l % 16) ds) ++ drop n rest ≡ rest =
    ap (λ (d : List ℕ). packed (spare_of os) d ++ drop n rest) joined
    ∙ ap (λ (o : List ℕ). o ++ drop n rest) packs ∙ take-append-drop n rest in
    record {
      called_len = called_len;
      calling_len = calling_len;
      written = λ i. sym lengths i ∷ sym tail i;
    }

-- the parts of decimal digits are decimal
pub decimal_parts : (n : ℕ) (ds : List ℕ) → are_decimal ds ≡ true → IsTrue (are_decimal (take n ds))
    × IsTrue (are_decimal (drop n ds))
decimal_parts n ds h =
    and_true (are_decimal (take n ds)) (are_decimal (drop n ds)) (sym (are_decimal-append (take n ds) (drop n ds))
    ∙ ap are_decimal (take-append-drop n ds) ∙ h)
