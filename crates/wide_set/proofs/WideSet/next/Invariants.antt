-- From the first number on there is none in the parts so far.
use Rattle.std.proofs.Common.{◌≡◌, ◌≤◌, ◌<◌, ◌+◌, ◌*◌, ℕ, false}
use Rattle.wide_set.specs.WideSet.{has}
use Rattle.wide_set.proofs.WideSet.next.Given as goal

abbrev pub invariant-loop-part : goal.invariant-loop-part
invariant-loop-part l =
    (l.first < 32) × (l.from ≤ 32 * l.part + l.first)
    × ((n : ℕ) → l.from ≤ n → n < 32 * l.part + l.first → has l.self n ≡ false)
