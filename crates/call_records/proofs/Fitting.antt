-- Records that have no spare places, after one of them was changed.
use Rattle.std.proofs.Common.{◌≡◌, ℕ, zero, suc, ◌<◌, ◌≤◌, List, [], ◌∷◌, take, set, length, get_or, refl, sym, ap, subst, ◌∙◌, inl, inr, arith}
use Rattle.std.specs.Prelude.{◌⊎◌, Some, slice_get}
use Rattle.call_records.specs.RecordView.{HasNoPlaces, NoPlacesAt}
use Rattle.call_records.specs.declared.record.Record.{Record}
use Rattle.call_records.proofs.Growing.{get_set, get_set_here}

pub single : (n number i : ℕ) → slice_get (n ∷ []) i ≡ Some number → number ≡ n
single n number zero e = cc
single n number (suc i) e = absurd (cc)

-- what is written back has none, and neither have the others
pub fitting_set : (numbers : List ℕ) (n : ℕ) (rs : List Record) (new : Record) → HasNoPlaces new → NoPlacesAt numbers rs
    → NoPlacesAt numbers (set rs n new)
fitting_set numbers n rs new fits others i number r is there = elim (get_set rs n new number r there) [
  | inl same ↦ subst HasNoPlaces same fits
  | inr before ↦ others i number r is before
]

pub fitting_here : (n : ℕ) (rs : List Record) (new : Record) → HasNoPlaces new → NoPlacesAt (n ∷ []) (set rs n new)
fitting_here n rs new fits i number r is there =
    let at : slice_get (set rs n new) n ≡ Some r
    = subst (λ (m : ℕ). slice_get (set rs n new) m ≡ Some r) (single n number i is) there in
    subst HasNoPlaces (get_set_here rs n new r at) fits

-- ---- those of the first numbers, and of one more

more : (numbers : List ℕ) (k i n number : ℕ) (d : ℕ) → k < length numbers → n ≡ get_or numbers k d
    → slice_get (take (suc k) numbers) i ≡ Some number
    → (slice_get (take k numbers) i ≡ Some number) ⊎ (number ≡ n)
more [] k i n number d less is at = absurd (omega arith)
more (x ∷ xs) zero zero n number d less is at = inr (let same : x ≡ number = cc in sym same ∙ sym is)
more (x ∷ xs) zero (suc i) n number d less is at = absurd (cc)
more (x ∷ xs) (suc k) zero n number d less is at = inl at
more (x ∷ xs) (suc k) (suc i) n number d less is at = more xs k i n number d (omega arith) is at

pub one_more : (numbers : List ℕ) (k n d : ℕ) (rs : List Record) → k < length numbers → n ≡ get_or numbers k d
    → NoPlacesAt (take k numbers) rs → NoPlacesAt (n ∷ []) rs → NoPlacesAt (take (suc k) numbers) rs
one_more numbers k n d rs less is before here i number r at there =
    elim (more numbers k i n number d less is at) [
      | inl earlier ↦ before i number r earlier there
      | inr last ↦ here 0 number r (ap (λ (m : ℕ). Some m) (sym last)) there
    ]

all_taken : (numbers : List ℕ) (k : ℕ) → length numbers ≤ k → take k numbers ≡ numbers
all_taken [] zero less = refl
all_taken [] (suc k) less = refl
all_taken (x ∷ xs) zero less = absurd (omega arith)
all_taken (x ∷ xs) (suc k) less = ap (λ (ys : List ℕ). x ∷ ys) (all_taken xs k (omega arith))

pub all_of : (numbers : List ℕ) (k : ℕ) (rs : List Record) → length numbers ≤ k → NoPlacesAt (take k numbers) rs
    → NoPlacesAt numbers rs
all_of numbers k rs less fits = subst (λ (ns : List ℕ). NoPlacesAt ns rs) (all_taken numbers k less) fits
