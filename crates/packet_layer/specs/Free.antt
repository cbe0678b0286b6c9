-- A channel on which a call may be placed.
use Rattle.std.specs.Prelude.{◌≡◌, ℕ, ◌<◌, true, List, length, slice_get, Some}
use Rattle.packet_channel.specs.Channel.{Channel}
use Rattle.packet_layer.specs.Layer.{is_free}

pub record IsFreeAt (channels : List Channel) (place : ℕ) : Type 0 where
  pub there : place < length channels
  pub free : (ch : Channel) → slice_get channels place ≡ Some ch → is_free ch ≡ true
