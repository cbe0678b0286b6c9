-- The places so far have no join, and their buffers went back.
use Rattle.std.proofs.Common.{◌≡◌, ◌++◌, map, take, drop, None}
use Rattle.flow_window.specs.Pool.{Balances}
use Rattle.switch_joins.specs.Held.{plain, buffers}
use Rattle.switch_joins.proofs.joins.Joins.clear.Given as goal

abbrev pub invariant-loop-place : goal.invariant-loop-place
invariant-loop-place l = record {
  joined : plain l.place-items ≡ map (λ o. None) (take l.place-index l.fn.self.joined) ++ drop l.place-index l.fn.self.joined;
  pool : Balances l.fn.pool l.fn.self.held l.pool (buffers l.place-items);
}
