use Rattle.std.proofs.Common.{◌∙◌, ap, sym, length, arith}
use Rattle.flow_window.specs.Pool.{Pool, weight}
use Rattle.packet_end.specs.Pooled.{PooledEnd}
use Rattle.packet_end.proofs.Pools.{replicated}
use Rattle.packet_end.proofs.end.PacketEnd.new.Goals as goal

pub invariant_of-result : goal.invariant_of-result
invariant_of-result c =
    let end = c.in_ok-end.ensures.end in
    let change = c.in_ok-end.ensures.pool in
    record {
      size_least =
          let made = ap (λ (x : PooledEnd). x.info) end in
          let size = change.size ∙ ap (λ (x : Pool). x.size) c.in_ok-pool.ensures.map in
          omega (arith, made, size, c.info.ensures, c.from.ensures);
      size_most =
          let size = change.size ∙ ap (λ (x : Pool). x.size) c.in_ok-pool.ensures.map in
          let most = c.in_ok-check.ensures.link.info_most in
          omega (arith, size, most, c.info.ensures, c.from.ensures);
      places = change.places ∙ ap (λ (x : Pool). length x.places) c.in_ok-pool.ensures.map ∙ replicated c.buffers.result _
          ∙ c.buffers.ensures ∙ sym (ap (λ (x : PooledEnd). x.share) end);
      exact = λ w.
          let held = ap (λ (x : PooledEnd). weight w x.held) end in
          let weights = change.weights w in
          let begins = c.in_ok-pool.ensures.weights w in
          omega (arith, held, weights, begins);
    }
