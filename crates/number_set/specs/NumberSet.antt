-- Sets of small numbers.
use Rattle.std.specs.Prelude.{◌≡◌, ℕ, ◌<◌, Bool, true, false, ◌&&◌, not, ◌==◌}
use Rattle.std.specs.Int.{bit_at}
use Rattle.number_set.specs.declared.NumberSet.{NumberSet}

-- whether a number is in a set
abbrev pub has : NumberSet → (number : ℕ) → Bool
has s n = bit_at s.bits n == 1

-- the first number of a set, which is taken out
pub record IsFirstOf (s : NumberSet) (number : ℕ) (rest : NumberSet) : Type 0 where
  pub there : has s number ≡ true
  pub first : (n : ℕ) → n < number → has s n ≡ false
  pub others : (n : ℕ) → has rest n ≡ (has s n && not (n == number))
