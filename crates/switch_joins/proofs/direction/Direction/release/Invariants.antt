use Rattle.std.proofs.Common.{◌≡◌, ◌+◌, ◌≤◌, length}
use Rattle.switch_joins.specs.Direction.{releasable, unreleasable}
use Rattle.switch_joins.specs.Held.{IsPart}
use Rattle.switch_joins.proofs.direction.Direction.release.Given as goal

-- those so far are among the ones that may be released
abbrev pub invariant-loop-self : goal.invariant-loop-self
invariant-loop-self l = record {
  count : l.count + releasable l.self-inside.held.items ≡ releasable l.fn.self.held;
  rest : unreleasable l.self-inside.held.items ≡ unreleasable l.fn.self.held;
  outstanding : l.self-inside.outstanding ≡ l.fn.self.outstanding;
  gathered : l.self-inside.gathered ≡ l.fn.self.gathered;
  part : IsPart l.self-inside.gathered;
  most : l.count + length l.self-inside.held.items ≤ 32;
}

abbrev pub decreases-loop-self : goal.decreases-loop-self
decreases-loop-self l = length l.self-inside.held.items
