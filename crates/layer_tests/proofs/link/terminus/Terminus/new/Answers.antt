use Rattle.std.proofs.Common.{◌+◌, ap, ◌∙◌, length, arith}
use Rattle.flow_window.specs.Pool.{Pool, weight}
use Rattle.line_end.specs.Held.{LineEnd}
use Rattle.layer_tests.proofs.Links.Stations.{made_k, made_info, replicated}
use Rattle.layer_tests.proofs.link.terminus.Terminus.new.Goals as goal

pub invariant_of-result : goal.invariant_of-result
invariant_of-result c =
    let p = c.args.params in
    let end = c.in_ok-end.ensures.end.1 in
    let change = c.in_ok-end.ensures.pool in
    let k = ap (λ (x : LineEnd). x.end.link.k) end ∙ made_k c.args.role p in
    let none = ap (λ (x : LineEnd). length x.held) end in
    let there = change.places ∙ ap (λ (x : Pool). length x.places) c.in_ok-pool.ensures.map ∙ replicated (c.from.result + 1) _ in
    record {
      info = ap (λ (x : LineEnd). x.end.link.info) end ∙ made_info c.args.role p ∙ c.requires;
      size = change.size ∙ ap (λ (x : Pool). x.size) c.in_ok-pool.ensures.map ∙ c.from-2.ensures ∙ c.requires;
      places = omega (arith, there, c.from.ensures, k);
      exact = λ w.
          let own = ap (λ (x : LineEnd). weight w x.held) end in
          let weights = change.weights w in
          let begins = c.in_ok-pool.ensures.weights w in
          omega (arith, own, weights, begins);
      few = omega (arith, none);
    }
