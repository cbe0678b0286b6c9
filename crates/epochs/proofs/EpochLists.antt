-- Epochs in the order of what passed.
use Rattle.std.specs.Prelude.{◌≡◌, ◌<◌, ◌≤◌, ◌+◌, ℕ, zero, suc, List, [], ◌∷◌, ◌++◌, drop, length, slice_get, unwrap_or, Some, None}
use Rattle.std.proofs.Common.{refl, add-one, arith}
use Rattle.epochs.specs.Passed.{Part}
use Rattle.epochs.specs.Passed as passed
use Rattle.epochs.specs.Matching.EpochsLeft.{nth_part, parts_from}

next_one : (number : ℕ) (before : List Part) (last : Part) → number < length before
    → drop number before ++ last ∷ [] ≡ unwrap_or (slice_get before number) last ∷ (drop (suc number) before ++ last ∷ [])
next_one number [] last below = absurd (omega arith)
next_one zero (p ∷ before) last below = refl
next_one (suc number) (p ∷ before) last below = next_one number before last (omega arith)

last_one : (number : ℕ) (before : List Part) (last : Part) → length before ≤ number
    → drop number before ++ last ∷ [] ≡ unwrap_or (slice_get before number) last ∷ []
last_one zero [] last ended = refl
last_one (suc number) [] last ended = refl
last_one zero (p ∷ before) last ended = absurd (omega arith)
last_one (suc number) (p ∷ before) last ended = last_one number before last (omega arith)

pub part-next : (number : ℕ) (e : passed.Epochs) → number < length e.before
    → parts_from (Some number) e ≡ nth_part number e ∷ parts_from (Some (number + 1)) e
part-next number e below = rw add-one (next_one number e.before e.last below)

pub part-last : (number : ℕ) (e : passed.Epochs) → length e.before ≤ number
    → parts_from (Some number) e ≡ nth_part number e ∷ parts_from None e
part-last number e ended = last_one number e.before e.last ended
