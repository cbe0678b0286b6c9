-- An end of a line and the pool that it alone holds buffers of.
use Rattle.std.proofs.Common.{◌≡◌, ◌∙◌, sym, arith}
use Rattle.flow_window.specs.Pool.{Pool, Balances}
use Rattle.flow_window.proofs.Weights.{weight_ones}
use Rattle.packet_end.specs.EndView.{IsEnd}
use Rattle.packet_end.specs.Pooled.{PooledEnd, Serves}
use Rattle.packet_end.specs.declared.end.PacketEnd.TheInside.{Inside}

pub serves : (a : Inside) → IsEnd a → Serves a.pool a.end.held a.end.share a.end.info
serves a is = record {
  size_least = is.size_least;
  size_most = is.size_most;
  holds = λ w. let exact = is.exact w in omega (arith, exact);
  room =
      let exact = is.exact (λ _. 1) in
      let ones = weight_ones a.end.held in
      omega (arith, exact, ones, is.places);
}

-- it gave buffers back or took some
pub after : (a : Inside) (new : PooledEnd) (pool : Pool) → IsEnd a → Balances a.pool a.end.held pool new.held →
    new.share ≡ a.end.share → new.info ≡ a.end.info → IsEnd (record { end = new; pool = pool })
after a new pool is change share info = record {
  size_least = omega (arith, change.size, is.size_least, info);
  size_most = omega (arith, change.size, is.size_most);
  places = change.places ∙ is.places ∙ sym share;
  exact = λ w. let weights = change.weights w in let exact = is.exact w in omega (arith, weights, exact);
}
