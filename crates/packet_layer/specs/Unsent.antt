-- What a packet layer leaves unsent (X.25 3.3, 4.1 to 4.4).
use Rattle.std.specs.Prelude.{◌≡◌, ◌≢◌, ℕ, false, [], Some, slice_get}
use Rattle.packet_channel.specs.Channel.{Channel}
use Rattle.packet_channel.specs.Unsent.{ChannelHasSaidAll}
use Rattle.packet_layer.specs.Layer.{Phase, Layer}

-- packets may go: the link has a session, and no relink is asked for
pub record MaySay (l : Layer) : Type 0 where
  pub session : l.phase ≢ Phase.NoSession
  pub kept : l.relink ≡ false

-- no restart packet is owed, and nothing that may go stays unsent on a channel
pub record OwesNothing (l : Layer) : Type 0 where
  pub restart : l.owed ≡ []
  pub channels : (place : ℕ) (ch : Channel) → slice_get l.channels place ≡ Some ch → ChannelHasSaidAll l.flow ch

-- If packets may go, nothing that may go stays unsent.
abbrev pub LayerHasSaidAll : Layer → Type 0
LayerHasSaidAll l = MaySay l → OwesNothing l
