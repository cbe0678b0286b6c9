-- The places that were passed have nothing, and nothing was changed there.
use Rattle.std.proofs.Common.{◌≡◌, ◌≤◌, length}
use Rattle.flow_window.specs.Pool.{Balances}
use Rattle.packet_layer.specs.Held.{most_held}
use Rattle.packet_layer.proofs.Round.{ArePassed}
use Rattle.packet_layer.proofs.layer.Layer.serve_between.Given as goal

abbrev pub invariant-loop-place : goal.invariant-loop-place
invariant-loop-place l = record {
  same : l.self.layer ≡ l.fn.self.layer;
  pool : Balances l.fn.pool l.fn.self.held l.pool l.self.held;
  few : length l.self.held ≤ most_held l.self.layer;
  octets : l.buf.items ≡ l.fn.buf.items;
  passed : ArePassed l.fn.self.layer l.first l.end l.places;
}

abbrev pub decreases-loop-place : goal.decreases-loop-place
decreases-loop-place l = l.places.bits
