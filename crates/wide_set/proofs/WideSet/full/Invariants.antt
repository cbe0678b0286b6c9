-- The parts so far have all their numbers.
use Rattle.std.proofs.Common.{◌≡◌, ◌<◌, ℕ, true, length}
use Rattle.std.specs.Prelude.{slice_get, Some}
use Rattle.number_set.specs.declared.NumberSet.{NumberSet}
use Rattle.number_set.specs.NumberSet as part
use Rattle.wide_set.proofs.WideSet.full.Given as goal

abbrev pub invariant-loop-made : goal.invariant-loop-made
invariant-loop-made l =
    (length l.parts.items ≡ l.made)
    × ((at : ℕ) (numbers : NumberSet) → slice_get l.parts.items at ≡ Some numbers → (n : ℕ) → n < 32 → part.has numbers n ≡ true)
