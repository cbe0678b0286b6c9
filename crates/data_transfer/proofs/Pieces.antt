-- A packet that is cut for a line of one of the sizes, piece by piece.
use Rattle.std.proofs.Common.{◌≡◌, ℕ, suc, ◌<◌, ◌≤◌, Bool, true, false, List, [], ◌∷◌, length, take, drop, sym, subst, ap, arith, length-drop}
use Rattle.std.specs.Prelude.{◌||◌, ◌==◌}
use Rattle.std.proofs.lemmas.Bool.{eqb-true}
use Rattle.data_transfer.specs.Packets.{Datum}
use Rattle.data_transfer.specs.Flow.{is_size}
use Rattle.data_transfer.specs.Cutting.{full_packets, cut_after, cut}

-- ---- what holds of each of the sizes

either : (P : Type 0) (a b : Bool) → (a ≡ true → P) → (b ≡ true → P) → (a || b) ≡ true → P
either P true b first second h = first h
either P false b first second h = second h

pub by_size : (P : ℕ → Type 0) → P 128 → P 256 → P 512 → P 1024 → (size : ℕ) → is_size size ≡ true → P size
by_size P one two three four size is =
    let at : (n : ℕ) → P n → (size == n) ≡ true → P size = λ n p e. subst P (sym (eqb-true size n e)) p in
    either (P size) _ (size == 1024)
    (either (P size) _ (size == 512) (either (P size) (size == 128) (size == 256) (at 128 one) (at 256 two)) (at 512 three))
    (at 1024 four) is

pub size_least : (size : ℕ) → is_size size ≡ true → 128 ≤ size
size_least size is = by_size (λ s. 128 ≤ s) (omega arith) (omega arith) (omega arith) (omega arith) size is

pub size_most : (size : ℕ) → is_size size ≡ true → size ≤ 1024
size_most size is = by_size (λ s. s ≤ 1024) (omega arith) (omega arith) (omega arith) (omega arith) size is

-- ---- how many full packets go

-- none, where all octets go into one packet
pub none_full : (size : ℕ) (octets : List ℕ) → is_size size ≡ true → full_packets size octets ≡ 0 → length octets ≤ size
none_full size octets is =
    by_size (λ s. full_packets s octets ≡ 0 → length octets ≤ s)
    (λ e. omega (arith, e)) (λ e. omega (arith, e)) (λ e. omega (arith, e)) (λ e. omega (arith, e)) size is

-- else one, and those of what is behind it
pub some_full : (size : ℕ) (octets : List ℕ) → is_size size ≡ true → 1 ≤ full_packets size octets → size < length octets
some_full size octets is =
    by_size (λ s. 1 ≤ full_packets s octets → s < length octets)
    (λ e. omega (arith, e)) (λ e. omega (arith, e)) (λ e. omega (arith, e)) (λ e. omega (arith, e)) size is

pub one_full : (size : ℕ) (octets : List ℕ) → is_size size ≡ true → size < length octets →
    full_packets size octets ≡ suc (full_packets size (drop size octets))
one_full size octets is =
    by_size (λ s. s < length octets → full_packets s octets ≡ suc (full_packets s (drop s octets)))
    (λ h. omega (arith, h, length-drop 128 octets)) (λ h. omega (arith, h, length-drop 256 octets))
    (λ h. omega (arith, h, length-drop 512 octets)) (λ h. omega (arith, h, length-drop 1024 octets)) size is

-- ---- the packets

-- a packet of full length, with which the message goes on, and what is behind it
abbrev pub full_of : (size : ℕ) → Datum → Datum
full_of size d = record d { octets = take size d.octets; more = true; delivery = false }

abbrev pub rest_of : (size : ℕ) → Datum → Datum
rest_of size d = record d { octets = drop size d.octets }

pub cut_more : (size : ℕ) (d : Datum) → is_size size ≡ true → size < length d.octets →
    cut size d ≡ full_of size d ∷ cut size (rest_of size d)
cut_more size d is long = ap (λ k. cut_after k size d) (one_full size d.octets is long)

pub cut_whole : (size : ℕ) (d : Datum) → full_packets size d.octets ≡ 0 → cut size d ≡ d ∷ []
cut_whole size d none = ap (λ k. cut_after k size d) none
