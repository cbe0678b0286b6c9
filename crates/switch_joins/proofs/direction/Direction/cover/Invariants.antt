use Rattle.std.proofs.Common.{◌≡◌, ◌-◌, ◌++◌, map, take, drop}
use Rattle.switch_joins.proofs.direction.Direction.cover.Given as goal

-- those so far are lowered
abbrev pub invariant-loop-uncovered : goal.invariant-loop-uncovered
invariant-loop-uncovered l =
    l.uncovered-items ≡ map (λ h. h - l.count) (take l.uncovered-index l.initial.uncovered-items) ++ drop l.uncovered-index l.initial.uncovered-items
