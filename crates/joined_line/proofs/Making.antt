-- How many buffers a line needs.
use Rattle.std.proofs.Common.{ℕ, zero, suc, ◌+◌, ◌*◌, ◌≤◌, arith}
use Rattle.data_transfer.specs.declared.flow.Flow.{Flow}

pub small : (k channels : ℕ) (flow : Flow) → k ≤ 7 → channels ≤ 32 → flow.window ≤ 32 → k + channels * (flow.window + 8) + 1 + channels ≤ 1320
small k channels flow a b d =
    let product = times channels (flow.window + 8) (omega (arith, d)) in
    omega (arith, a, b, product)
  where
    times : (m n : ℕ) → n ≤ 40 → m * n ≤ m * 40
    times zero n few = omega arith
    times (suc m) n few = let rest = times m n few in omega (arith, rest, few)
