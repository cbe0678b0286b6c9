-- Channels and what is kept of them.
use Rattle.std.proofs.Common.{◌≡◌, ℕ, zero, suc, ◌<◌, List, [], ◌∷◌, set, length, refl, arith}
use Rattle.std.specs.Prelude.{slice_get}
use Rattle.call_records.specs.Book.{Slot, free_slot, found_slot, nth_slot, with_nth}

found_or : (P : Slot → Type 0) (slots : List Slot) (i j : ℕ) (slot : Slot) → P slot → P (found_slot (slice_get slots j)) → P (found_slot (slice_get (set slots i slot) j))
found_or P [] i j slot h k = k
found_or P (s ∷ slots) zero zero slot h k = h
found_or P (s ∷ slots) zero (suc j) slot h k = k
found_or P (s ∷ slots) (suc i) zero slot h k = k
found_or P (s ∷ slots) (suc i) (suc j) slot h k = found_or P slots i j slot h k

-- where something is kept of a channel, another one has what it had
pub nth_or : (P : Slot → Type 0) (slots : List Slot) (c d : ℕ) (slot : Slot) → P slot → P (nth_slot slots d) → P (nth_slot (with_nth slots c slot) d)
nth_or P slots zero d slot h k = k
nth_or P slots (suc i) zero slot h k = k
nth_or P slots (suc i) (suc j) slot h k = found_or P slots i j slot h k

-- beyond the channels of the line there is no call
pub beyond : (slots : List Slot) (c : ℕ) → length slots < c → nth_slot slots c ≡ free_slot
beyond slots zero h = refl
beyond [] (suc i) h = refl
beyond (s ∷ slots) (suc zero) h = absurd (let no : ⊥ = omega arith in no)
beyond (s ∷ slots) (suc (suc i)) h = beyond slots (suc i) (omega arith)
