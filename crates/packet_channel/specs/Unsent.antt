-- What a channel leaves unsent (X.25 4.1 to 4.4).
use Rattle.std.specs.Prelude.{◌≡◌, false, []}
use Rattle.data_transfer.specs.Unsent.{HasSaidAll}
use Rattle.data_transfer.specs.declared.flow.Flow.{Flow}
use Rattle.packet_channel.specs.Channel.{Channel}
use Rattle.packet_channel.specs.Channel.ChannelState.{Transfer}

-- Nothing that may go stays unsent: no control packet is owed, and a call in data transfer has said all, unless its own
-- reset is not confirmed.
pub record ChannelHasSaidAll (flow : Flow) (ch : Channel) : Type 0 where
  pub owed : ch.owed ≡ []
  pub transfer : ch.state ≡ Transfer → ch.resetting ≡ false → HasSaidAll flow ch.traffic
