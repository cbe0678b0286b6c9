-- A packet layer with a pool of its own.
use Rattle.std.specs.Prelude.{◌≡◌, ℕ, ◌+◌, ◌≤◌, length}
use Rattle.flow_window.specs.Pool.{Buffer, weight, pooled}
use Rattle.packet_layer.specs.Held.{most_held}
use Rattle.packet_layer.specs.Layer.{Layer}
use Rattle.layer_tests.specs.declared.packet.station.Station.TheInside.{Inside}

abbrev pub layer_of : Inside → Layer
layer_of a = a.layer.layer

pub record IsStation (a : Inside) : Type 0 where
  pub most : a.layer.layer.flow.size ≤ 1024
  pub size : a.pool.size ≡ 1024
  pub places : length a.pool.places ≡ most_held a.layer.layer + 1
  pub exact : (w : Buffer → ℕ) → pooled w a.pool ≡ weight w a.layer.held
