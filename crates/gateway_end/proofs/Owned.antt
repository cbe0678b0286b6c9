-- The link of a gateway and the pool that it alone holds buffers of.
use Rattle.std.proofs.Common.{◌≡◌, ◌≤◌, ◌<◌, ◌∙◌, ℕ, length, ap, sym, subst, arith}
use Rattle.flow_window.specs.Pool.{Balances, Holds, in_use}
use Rattle.flow_window.proofs.Weights.{weight_ones}
use Rattle.xot_gateway.specs.declared.line.XotLine.{XotLine}
use Rattle.xot_gateway.specs.Packets.{most_packet}
use Rattle.gateway_end.specs.EndView.{IsEnd}
use Rattle.gateway_end.specs.Waiting.{WaitsShort}
use Rattle.gateway_end.specs.declared.end.GatewayEnd.TheInside.{Inside}

pub holds : (a : Inside) → IsEnd a → Holds a.pool a.line.held
holds a is w = let exact = is.exact w in omega (arith, exact)

pub room : (a : Inside) → IsEnd a → in_use a.pool < length a.pool.places
room a is =
    let exact = is.exact (λ _. 1) in
    let ones = weight_ones a.line.held in
    omega (arith, exact, ones, is.places, is.few, is.window)

-- the link gave buffers back or took some
pub after : (a b : Inside) → IsEnd a → Balances a.pool a.line.held b.pool b.line.held
    → length b.line.held ≤ b.line.end.link.k → b.line.end.link.k ≡ a.line.end.link.k
    → b.line.end.link.info ≡ a.line.end.link.info → b.calls.line ≡ a.calls.line
    → WaitsShort b.next a.line.end.link.info → IsEnd b
after a b is change few k info line waits = record {
  size_least = omega (arith, change.size, is.size_least, info);
  size_most = omega (arith, change.size, is.size_most);
  places = change.places ∙ is.places;
  exact = λ w. let weights = change.weights w in let exact = is.exact w in omega (arith, weights, exact);
  window = omega (arith, k, is.window);
  few = few;
  short = let most = ap (λ (l : XotLine). most_packet l) line in omega (arith, most, is.short, info);
  waits = subst (λ (n : ℕ). WaitsShort b.next n) (sym info) waits;
}

-- the calls changed, or what waits
pub with_calls : (a b : Inside) → IsEnd a → b.pool ≡ a.pool → b.line ≡ a.line → b.calls.line ≡ a.calls.line
    → WaitsShort b.next a.line.end.link.info → IsEnd b
with_calls a b is pool same line waits = record {
  size_least = rw (pool, same) is.size_least;
  size_most = rw pool is.size_most;
  places = rw pool is.places;
  exact = rw (pool, same) is.exact;
  window = rw same is.window;
  few = rw same is.few;
  short = rw (line, same) is.short;
  waits = rw same waits;
}
