-- A change of one of the code's records: as the records show it, and the room that it leaves.
use Rattle.std.proofs.Common.{◌≡◌, ℕ, zero, suc, ◌<◌, ◌≤◌, List, [], ◌∷◌, ◌++◌, map, set, length, get_or, refl, sym, ap, subst, ◌∙◌, inl, inr, arith}
use Rattle.std.specs.Prelude.{◌⊎◌, Some, slice_get}
use Rattle.call_records.specs.Records.{RecordValue, changed_at}
use Rattle.call_records.specs.RecordView.{shown, PlacesAt, IsCounted, AreCounted, left}
use Rattle.call_records.specs.declared.record.Record.{Record}
use Rattle.call_records.specs.declared.record.Growth.{Growth}
use Rattle.call_records.specs.declared.record.Growth.TheVariants as growth

pub found_at : {X : Type 0} (xs : List X) (i : ℕ) (x : X) → i < length xs → x ≡ get_or xs i x → slice_get xs i ≡ Some x
found_at [] i x h e = absurd (let no : ⊥ = omega arith in no)
found_at (y ∷ ys) zero x h e = ap (λ z. Some z) (sym e)
found_at (y ∷ ys) (suc i) x h e = found_at ys i x (omega arith) e

pub get_set : {X : Type 0} (xs : List X) (n : ℕ) (y : X) (m : ℕ) (x : X) → slice_get (set xs n y) m ≡ Some x → (y ≡ x) ⊎ (slice_get xs m ≡ Some x)
get_set [] n y m x e = inr e
get_set (z ∷ xs) zero y zero x e = inl (cc)
get_set (z ∷ xs) zero y (suc m) x e = inr e
get_set (z ∷ xs) (suc n) y zero x e = inr e
get_set (z ∷ xs) (suc n) y (suc m) x e = get_set xs n y m x e

pub get_set_here : {X : Type 0} (xs : List X) (n : ℕ) (y x : X) → slice_get (set xs n y) n ≡ Some x → y ≡ x
get_set_here [] n y x e = absurd (cc)
get_set_here (z ∷ xs) zero y x e = cc
get_set_here (z ∷ xs) (suc n) y x e = get_set_here xs n y x e

pub changed_some : (rs : List Record) (n : ℕ) (r new : Record) (change : RecordValue → RecordValue) → slice_get rs n ≡ Some r → shown new ≡ change (shown r)
    → map shown (set rs n new) ≡ changed_at n change (map shown rs)
changed_some [] n r new change h e = refl
changed_some (x ∷ rs) zero r new change h e =
    let same : r ≡ x = cc in
    ap (λ (y : RecordValue). y ∷ map shown rs) (e ∙ ap (λ (z : Record). change (shown z)) same)
changed_some (x ∷ rs) (suc n) r new change h e = ap (λ (ys : List RecordValue). shown x ∷ ys) (changed_some rs n r new change h e)

pub shown_same : (rs : List Record) (n : ℕ) (r new : Record) → slice_get rs n ≡ Some r → shown new ≡ shown r → map shown (set rs n new) ≡ map shown rs
shown_same [] n r new h e = refl
shown_same (x ∷ rs) zero r new h e =
    let same : r ≡ x = cc in
    ap (λ (y : RecordValue). y ∷ map shown rs) (e ∙ ap shown same)
shown_same (x ∷ rs) (suc n) r new h e = ap (λ (ys : List RecordValue). shown x ∷ ys) (shown_same rs n r new h e)

pub changed_none : (rs : List Record) (n : ℕ) (change : RecordValue → RecordValue) → length rs ≤ n → changed_at n change (map shown rs) ≡ map shown rs
changed_none [] n change h = refl
changed_none (x ∷ rs) zero change h = absurd (let no : ⊥ = omega arith in no)
changed_none (x ∷ rs) (suc n) change h = ap (λ (ys : List RecordValue). shown x ∷ ys) (changed_none rs n change (omega arith))

pub none_at : {X : Type 0} (xs : List X) (i : ℕ) (x : X) → length xs ≤ i → slice_get xs i ≡ Some x → ⊥
none_at [] i x h e = absurd (cc)
none_at (y ∷ ys) zero x h e = let no : ⊥ = omega arith in no
none_at (y ∷ ys) (suc i) x h e = none_at ys i x (omega arith) e

-- ---- room

pub fewer_at : (k j m : ℕ) (rs : List Record) → j ≤ k → PlacesAt k m rs → PlacesAt j m rs
fewer_at k j m rs h p r e = omega (arith, h, p r e)

pub left_less : (g : Growth) (k : ℕ) → left g k ≤ k
left_less (growth.Sent packet) k = omega arith
left_less (growth.InterruptSent interrupt) k = omega arith
left_less (growth.Taken packet) k = omega arith
left_less (growth.InterruptTaken interrupt) k = omega arith
left_less (growth.Covered count) k = omega arith
left_less (growth.Released count) k = omega arith
left_less (growth.Step step) k = omega arith
left_less growth.Epoch k = omega arith
left_less growth.Closed k = omega arith

pub left_in_order : (g : Growth) (j k : ℕ) → j ≤ k → left g j ≤ left g k
left_in_order (growth.Sent packet) j k h = omega arith
left_in_order (growth.InterruptSent interrupt) j k h = omega arith
left_in_order (growth.Taken packet) j k h = omega arith
left_in_order (growth.InterruptTaken interrupt) j k h = omega arith
left_in_order (growth.Covered count) j k h = h
left_in_order (growth.Released count) j k h = h
left_in_order (growth.Step step) j k h = omega arith
left_in_order growth.Epoch j k h = omega arith
left_in_order growth.Closed j k h = h

-- what is written back counts so many places, and so do the others
pub places_set : (k m n : ℕ) (rs : List Record) (new : Record) → k ≤ new.places → PlacesAt k m rs → PlacesAt k m (set rs n new)
places_set k m n rs new h p r e = elim (get_set rs n new m r e) [
  | inl same ↦ let P : Record → Type 0 = λ x. k ≤ x.places in subst P same h
  | inr there ↦ p r there
]

pub places_here : (k n : ℕ) (rs : List Record) (new : Record) → k ≤ new.places → PlacesAt k n (set rs n new)
places_here k n rs new h r e = let P : Record → Type 0 = λ x. k ≤ x.places in subst P (get_set_here rs n new r e) h

-- as a growth changes a record
pub grown_places : (g : Growth) (k m n : ℕ) (rs : List Record) (old new : Record) → slice_get rs n ≡ Some old → new.places ≡ left g old.places
    → PlacesAt k n rs → PlacesAt k m rs → PlacesAt (left g k) m (set rs n new)
grown_places g k m n rs old new there grows here at =
    let enough : left g k ≤ new.places = subst (λ (p : ℕ). left g k ≤ p) (sym grows) (left_in_order g k old.places (here old there)) in
    places_set (left g k) m n rs new enough (fewer_at k (left g k) m rs (left_less g k) at)

-- where a change of a record leaves what it counts, all records count what they did
pub places_kept : (k m n : ℕ) (rs : List Record) (old new : Record) → slice_get rs n ≡ Some old → new.places ≡ old.places → PlacesAt k m rs → PlacesAt k m (set rs n new)
places_kept k m n [] old new there keeps at r e = at r e
places_kept k zero zero (z ∷ rs) old new there keeps at r e =
    let same : old ≡ z = cc in
    let is : new ≡ r = cc in
    let P : Record → Type 0 = λ x. k ≤ x.places in
    let before : k ≤ old.places = subst P (sym same) (at z refl) in
    let after : k ≤ new.places = subst (λ (p : ℕ). k ≤ p) (sym keeps) before in
    subst P is after
places_kept k (suc m) zero (z ∷ rs) old new there keeps at r e = at r e
places_kept k zero (suc n) (z ∷ rs) old new there keeps at r e = at r e
places_kept k (suc m) (suc n) (z ∷ rs) old new there keeps at r e = places_kept k m n rs old new there keeps at r e

-- ---- records with the places that they count

pub counted_set : (n : ℕ) (rs : List Record) (new : Record) → IsCounted new → AreCounted rs → AreCounted (set rs n new)
counted_set n rs new h p m r e = elim (get_set rs n new m r e) [
  | inl same ↦ subst IsCounted same h
  | inr there ↦ p m r there
]

last_or_before : {X : Type 0} (xs : List X) (x : X) (n : ℕ) (y : X) → slice_get (xs ++ x ∷ []) n ≡ Some y → (x ≡ y) ⊎ (slice_get xs n ≡ Some y)
last_or_before [] x zero y e = inl (cc)
last_or_before [] x (suc n) y e = absurd (cc)
last_or_before (z ∷ xs) x zero y e = inr e
last_or_before (z ∷ xs) x (suc n) y e = last_or_before xs x n y e

pub counted_more : (rs more : List Record) (new : Record) → more ≡ rs ++ new ∷ [] → IsCounted new → AreCounted rs → AreCounted more
counted_more rs more new is h p m r e = elim (last_or_before rs new m r (subst (λ (l : List Record). slice_get l m ≡ Some r) is e)) [
  | inl same ↦ subst IsCounted same h
  | inr there ↦ p m r there
]

pub none_counted : (rs : List Record) → rs ≡ [] → AreCounted rs
none_counted [] is m r e = absurd (cc)
none_counted (x ∷ rs) is m r e = absurd (cc)
