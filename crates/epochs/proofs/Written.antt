-- Packets that are written one after the other, read and added.
use Rattle.std.proofs.Common.{◌≡◌, ℕ, zero, suc, ◌+◌, ◌-◌, ◌/◌, ◌%◌, ◌≤◌, Bool, true, false, List, [], ◌∷◌, ◌++◌, length, take, drop, slice_index_or, refl, sym, ap, ap₂, subst, ◌∙◌, arith}
use Rattle.std.specs.Prelude.{Result, Ok, Err, IsOk, is_ok, if◌then◌else◌, Option, Some, None, MatchOption}
use Rattle.std.specs.List.{flat_map}
use mir.Val.{bool_byte}
use Rattle.std.proofs.lemmas.List.{append_assoc, length_push, length-append, length-take, drop-drop}
use Rattle.epochs.specs.Item.{DataPacket}
use Rattle.epochs.specs.Packets.{data_packet_of, bit, is_set, first_octet, second_octet, written, length_read, read_packets, AreWritten, AreThere}
use Rattle.epochs.specs.declared.packets.PassedPacket.{PassedPacket}

take_front : (xs ys : List ℕ) → take (length xs) (xs ++ ys) ≡ xs
take_front [] ys = refl
take_front (x ∷ xs) ys = ap (λ zs. x ∷ zs) (take_front xs ys)

drop_front : (xs ys : List ℕ) → drop (length xs) (xs ++ ys) ≡ ys
drop_front [] ys = refl
drop_front (x ∷ xs) ys = drop_front xs ys

-- ---- a head is read as it is written

pub bit_small : (b : Bool) → bit b ≤ 1
bit_small true = omega arith
bit_small false = omega arith

set_bit : (b : Bool) (n : ℕ) → n ≡ bit b → is_set n ≡ b
set_bit true n e = rw e refl
set_bit false n e = rw e refl

read_length : (p : DataPacket) → length_read (first_octet p) (second_octet p) ≡ length p.octets
read_length p = omega (arith, bit_small p.more, bit_small p.qualified, bit_small p.delivery)

read_more_bit : (p : DataPacket) → is_set (first_octet p / 4 % 2) ≡ p.more
read_more_bit p = set_bit p.more _ (omega (arith, bit_small p.more, bit_small p.qualified, bit_small p.delivery))

read_qualified : (p : DataPacket) → is_set (first_octet p / 2 % 2) ≡ p.qualified
read_qualified p =
    set_bit p.qualified _ (omega (arith, bit_small p.more, bit_small p.qualified, bit_small p.delivery))

read_delivery : (p : DataPacket) → is_set (first_octet p % 2) ≡ p.delivery
read_delivery p =
    set_bit p.delivery _ (omega (arith, bit_small p.more, bit_small p.qualified, bit_small p.delivery))

pub octet_of : (b : Bool) → bool_byte b ≡ bit b
octet_of true = refl
octet_of false = refl

pub where_ok : {E X : Type 0} (r : Result (Unit {0}) E) (new x y : X) → new ≡ (if is_ok r then x else y) → IsOk r → new ≡ x
where_ok (Ok done) new x y e ok = e
where_ok (Err fault) new x y e ok = absurd (cc)

-- ---- added

read_back : (ps : List DataPacket) → read_packets (length ps) (flat_map written ps) ≡ ps
read_back [] = refl
read_back (p ∷ ps) = rw (
  read_length p,
  take_front p.octets (flat_map written ps),
  drop_front p.octets (flat_map written ps),
  read_more_bit p,
  read_qualified p,
  read_delivery p,
  read_back ps,
) refl

-- one after the others
all_with : (ps : List DataPacket) (p : DataPacket) → flat_map written (ps ++ p ∷ []) ≡ flat_map written ps ++ written p
all_with [] p = ap (λ xs. first_octet p ∷ second_octet p ∷ xs) (append_nil p.octets) where
  append_nil : (xs : List ℕ) → xs ++ [] ≡ xs
  append_nil [] = refl
  append_nil (x ∷ xs) = ap (λ zs. x ∷ zs) (append_nil xs)
all_with (q ∷ ps) p = ap (λ xs. written q ++ xs) (all_with ps p) ∙ sym (append_assoc (written q) (flat_map written ps) (written p))

pub read_more : (n : ℕ) (os : List ℕ) (p : DataPacket) → AreWritten n os → read_packets (n + 1) (os ++ written p) ≡ read_packets n os ++ p ∷ []
read_more n os p w =
    let ps = read_packets n os in
    let count : n + 1 ≡ length (ps ++ p ∷ []) = ap (λ k. k + 1) w.counted ∙ sym (length_push ps p) in
    let all : os ++ written p ≡ flat_map written (ps ++ p ∷ []) = ap (λ xs. xs ++ written p) w.whole ∙ sym (all_with ps p) in
    ap (λ k. read_packets k (os ++ written p)) count ∙ ap (λ xs. read_packets (length (ps ++ p ∷ [])) xs) all ∙ read_back (ps ++ p ∷ [])

pub written_more : (n : ℕ) (os : List ℕ) (p : DataPacket) → AreWritten n os → AreWritten (n + 1) (os ++ written p)
written_more n os p w =
    let ps = read_packets n os in
    let more = read_more n os p w in
    record {
      whole = ap (λ xs. xs ++ written p) w.whole ∙ sym (all_with ps p) ∙ ap (λ qs. flat_map written qs) (sym more);
      counted = ap (λ k. k + 1) w.counted ∙ sym (length_push ps p) ∙ ap (λ (qs : List DataPacket). length qs) (sym more);
    }

-- they take more octets than they are
few : (ps : List DataPacket) → length ps ≤ length (flat_map written ps)
few [] = omega arith
few (p ∷ ps) = omega (arith, few ps, length-append p.octets (flat_map written ps))

pub count_fits : (n : ℕ) (os : List ℕ) → AreWritten n os → n ≤ length os
count_fits n os w = omega (arith, few (read_packets n os), w.counted, ap (λ (xs : List ℕ). length xs) w.whole)

-- ---- taken from the front

abbrev pub front_length : List ℕ → ℕ
front_length os = length_read (slice_index_or os 0 0) (slice_index_or os 1 0)

abbrev pub first_of : List ℕ → DataPacket
first_of os = record {
  octets = take (front_length os) (drop 2 os);
  more = is_set (slice_index_or os 0 0 / 4 % 2);
  qualified = is_set (slice_index_or os 0 0 / 2 % 2);
  delivery = is_set (slice_index_or os 0 0 % 2);
}

abbrev pub behind : List ℕ → List ℕ
behind os = drop (front_length os) (drop 2 os)

-- the first of them has the length that is read
whole_length : (n a b : ℕ) (os : List ℕ) → AreWritten (suc n) (a ∷ b ∷ os) → length_read a b ≡ length (take (length_read a b) os)
whole_length n a b os w =
    let p = first_of (a ∷ b ∷ os) in
    let first : a ≡ first_octet p = ap (λ xs. slice_index_or xs 0 0) w.whole in
    let second : b ≡ second_octet p = ap (λ xs. slice_index_or xs 1 0) w.whole in
    ap₂ (λ m n. length_read m n) first second ∙ read_length p

-- what is written behind the first of them
written_behind : (n a b : ℕ) (os : List ℕ) → AreWritten (suc n) (a ∷ b ∷ os) → AreWritten n (drop (length_read a b) os)
written_behind n a b os w =
    let size = length_read a b in
    let rest = flat_map written (read_packets n (drop size os)) in
    let tail : os ≡ take size os ++ rest = ap (λ (xs : List ℕ). drop 2 xs) w.whole in
    record {
      whole = ap (λ xs. drop size xs) tail ∙ ap (λ k. drop k (take size os ++ rest)) (whole_length n a b os w) ∙ drop_front (take size os) rest;
      counted = omega (arith, w.counted);
    }

-- what is written is there
pub are_there : (n : ℕ) (os : List ℕ) → AreWritten n os → AreThere n os
are_there zero os w = tt
are_there (suc n) [] w = absurd (let no : ⊥ = omega (arith, w.counted) in no)
are_there (suc n) (a ∷ []) w = absurd (let no : ⊥ = omega (arith, w.counted) in no)
are_there (suc n) (a ∷ b ∷ os) w =
    let size = length_read a b in
    let fits : size ≤ length os = omega (arith, whole_length n a b os w, length-take size os) in
    (fits, are_there n (drop size os) (written_behind n a b os w))

-- the first of them fits, is read, and those behind it are there
pub first_there : (n : ℕ) (os : List ℕ) → 1 ≤ n → AreThere n os
    → (front_length os ≤ length (drop 2 os)) × (read_packets n os ≡ first_of os ∷ read_packets (n - 1) (behind os)) × AreThere (n - 1) (behind os)
first_there zero os h t = absurd (let no : ⊥ = omega (arith, h) in no)
first_there (suc n) [] h t = absurd t
first_there (suc n) (a ∷ []) h t = absurd t
first_there (suc n) (a ∷ b ∷ os) h t =
    let size = length_read a b in
    let less : n ≡ suc n - 1 = omega arith in
    let P : ℕ → Type 0 = λ k. AreThere k (drop size os) in
    (t.0, ap (λ k. first_of (a ∷ b ∷ os) ∷ read_packets k (drop size os)) less, subst P less t.1)

-- ---- some of them

pub read_count : (n : ℕ) (os : List ℕ) → AreThere n os → length (read_packets n os) ≡ n
read_count zero os t = refl
read_count (suc n) [] t = absurd t
read_count (suc n) (a ∷ []) t = absurd t
read_count (suc n) (a ∷ b ∷ os) t = ap suc (read_count n (drop (length_read a b) os) t.1)

-- the first k of them are there, and read
pub fewer_there : (k n : ℕ) (os : List ℕ) → k ≤ n → AreThere n os → AreThere k os × (read_packets k os ≡ take k (read_packets n os))
fewer_there zero n os h t = (tt, refl)
fewer_there (suc k) zero os h t = absurd (let no : ⊥ = omega (arith, h) in no)
fewer_there (suc k) (suc n) [] h t = absurd t
fewer_there (suc k) (suc n) (a ∷ []) h t = absurd t
fewer_there (suc k) (suc n) (a ∷ b ∷ os) h t =
    let rest = fewer_there k n (drop (length_read a b) os) (omega (arith, h)) t.1 in
    ((t.0, rest.0), ap (λ (ps : List DataPacket). first_of (a ∷ b ∷ os) ∷ ps) rest.1)

-- one more is left out at the front
next_left : (old new : List DataPacket) (r : Option PassedPacket) → MatchOption r ((old ≡ []) × (new ≡ [])) (λ p. old ≡ data_packet_of p ∷ new) → new ≡ drop 1 old
next_left old new None e = e.1 ∙ sym (ap (λ (ps : List DataPacket). drop 1 ps) e.0)
next_left old new (Some p) e = sym (ap (λ (ps : List DataPacket). drop 1 ps) e)

pub left_next : (ps old new : List DataPacket) (i : ℕ) (r : Option PassedPacket) → old ≡ drop i ps
    → MatchOption r ((old ≡ []) × (new ≡ [])) (λ p. old ≡ data_packet_of p ∷ new) → new ≡ drop (i + 1) ps
left_next ps old new i r e steps = next_left old new r steps ∙ ap (λ (xs : List DataPacket). drop 1 xs) e ∙ drop-drop 1 i ps
