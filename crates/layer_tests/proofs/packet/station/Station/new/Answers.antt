use Rattle.std.proofs.Common.{◌≡◌, ◌+◌, ◌*◌, ◌≤◌, ap, ◌∙◌, sym, subst, length, arith}
use Rattle.flow_window.specs.Pool.{Pool, weight}
use Rattle.data_transfer.proofs.Windows.{size_most}
use Rattle.packet_layer.specs.Held.{Layer, most_held}
use Rattle.layer_tests.proofs.Packets.Stations.{made_most, replicated}
use Rattle.layer_tests.proofs.packet.station.Station.new.Goals as goal

pub invariant_of-result : goal.invariant_of-result
invariant_of-result c =
    let p = c.args.params in
    let layer = c.in_ok-layer.ensures.1 in
    let most = ap (λ (x : Layer). most_held x.layer) layer ∙ made_most c.args.role p.channels p.flow p.standing in
    let buffers = c.from.result * (c.from-2.result + 8) + 1 in
    let asked : buffers ≡ p.channels * (p.flow.window + 8) + 1 = λ i. c.from.ensures i * (c.from-2.ensures i + 8) + 1 in
    let there = ap (λ (x : Pool). length x.places) c.in_ok-pool.ensures.map ∙ replicated buffers _ in
    record {
      most = subst (λ (x : Layer). x.layer.flow.size ≤ 1024) (sym layer) (size_most p.flow c.in_ok-layer.ensures.0.flow_is);
      size = ap (λ (x : Pool). x.size) c.in_ok-pool.ensures.map;
      places = omega (arith, there, asked, most);
      exact = λ w.
          let own = ap (λ (x : Layer). weight w x.held) layer in
          let begins = c.in_ok-pool.ensures.weights w in
          omega (arith, own, begins);
    }
