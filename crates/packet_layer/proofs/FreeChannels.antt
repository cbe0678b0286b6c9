-- The lowest and the highest free channel of a list, found by going along it.
use Rattle.std.proofs.Common.{◌≡◌, ℕ, zero, suc, ◌+◌, Bool, true, false, List, [], ◌∷◌, take, refl, add-one}
use Rattle.std.specs.Prelude.{Option, Some, None, slice_get}
use Rattle.packet_channel.specs.Channel.{Channel}
use Rattle.packet_layer.specs.Layer.{is_free, lowest_free, highest_free, raised, either_of, itself_if}

-- the lowest of a list is none exactly where that of each part is
lowest_none : (x : Channel) (xs : List Channel) → lowest_free (x ∷ xs) ≡ None → (is_free x ≡ false) × (lowest_free xs ≡ None)
lowest_none x xs h = none_of (is_free x) (lowest_free xs) h where
  none_of : (b : Bool) (o : Option ℕ) → either_of (itself_if b) (raised o) ≡ None → (b ≡ false) × (o ≡ None)
  none_of true o h = absurd (cc)
  none_of false None h = (refl, refl)
  none_of false (Some n) h = absurd (cc)

-- one channel more behind those that were looked at
lowest_more : (chs : List Channel) (i : ℕ) (ch : Channel) → slice_get chs i ≡ Some ch → is_free ch ≡ false → lowest_free (take i chs) ≡ None → lowest_free (take (suc i) chs) ≡ None
lowest_more [] i ch h f n = refl
lowest_more (x ∷ xs) zero ch h f n = let e : x ≡ ch = cc in rw (e, f) refl
lowest_more (x ∷ xs) (suc i) ch h f n =
    let parts : (is_free x ≡ false) × (lowest_free (take i xs) ≡ None) = lowest_none x (take i xs) n in
    rw (parts.0, lowest_more xs i ch h f parts.1) refl

lowest_first : (chs : List Channel) (i : ℕ) (ch : Channel) → slice_get chs i ≡ Some ch → is_free ch ≡ true → lowest_free (take i chs) ≡ None → lowest_free chs ≡ Some (suc i)
lowest_first [] i ch h f n = absurd (cc)
lowest_first (x ∷ xs) zero ch h f n = let e : x ≡ ch = cc in rw (e, f) refl
lowest_first (x ∷ xs) (suc i) ch h f n =
    let parts : (is_free x ≡ false) × (lowest_free (take i xs) ≡ None) = lowest_none x (take i xs) n in
    rw (parts.0, lowest_first xs i ch h f parts.1) refl

highest_same : (chs : List Channel) (i : ℕ) (ch : Channel) → slice_get chs i ≡ Some ch → is_free ch ≡ false → highest_free (take (suc i) chs) ≡ highest_free (take i chs)
highest_same [] i ch h f = absurd (cc)
highest_same (x ∷ xs) zero ch h f = let e : x ≡ ch = cc in rw (e, f) refl
highest_same (x ∷ xs) (suc i) ch h f = rw (highest_same xs i ch h f) refl

highest_last : (chs : List Channel) (i : ℕ) (ch : Channel) → slice_get chs i ≡ Some ch → is_free ch ≡ true → highest_free (take (suc i) chs) ≡ Some (suc i)
highest_last [] i ch h f = absurd (cc)
highest_last (x ∷ xs) zero ch h f = let e : x ≡ ch = cc in rw (e, f) refl
highest_last (x ∷ xs) (suc i) ch h f = rw (highest_last xs i ch h f) refl

-- the same by i + 1
pub lowest_goes_on : (chs : List Channel) (i : ℕ) (ch : Channel) → slice_get chs i ≡ Some ch → is_free ch ≡ false → lowest_free (take i chs) ≡ None → lowest_free (take (i + 1) chs) ≡ None
lowest_goes_on chs i ch h f n = rw add-one (lowest_more chs i ch h f n)

pub lowest_found : (chs : List Channel) (i : ℕ) (ch : Channel) → slice_get chs i ≡ Some ch → is_free ch ≡ true → lowest_free (take i chs) ≡ None → lowest_free chs ≡ Some (i + 1)
lowest_found chs i ch h f n = rw add-one (lowest_first chs i ch h f n)

pub highest_goes_on : (chs : List Channel) (i : ℕ) (ch : Channel) → slice_get chs i ≡ Some ch → is_free ch ≡ false → highest_free (take (i + 1) chs) ≡ highest_free (take i chs)
highest_goes_on chs i ch h f = rw add-one (highest_same chs i ch h f)

pub highest_found : (chs : List Channel) (i : ℕ) (ch : Channel) → slice_get chs i ≡ Some ch → is_free ch ≡ true → highest_free (take (i + 1) chs) ≡ Some (i + 1)
highest_found chs i ch h f = rw add-one (highest_last chs i ch h f)
