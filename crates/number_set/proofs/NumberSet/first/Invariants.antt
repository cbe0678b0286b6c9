-- The numbers so far.
use Rattle.std.proofs.Common.{◌≡◌, ℕ, nat_lt}
use Rattle.number_set.specs.NumberSet.{has}
use Rattle.number_set.proofs.NumberSet.first.Given as goal

abbrev pub invariant-loop-number : goal.invariant-loop-number
invariant-loop-number l = (n : ℕ) → has l.set n ≡ nat_lt n l.number
