-- What contracts see of the code's channel, and what always holds of it.
use Rattle.std.specs.Prelude.{◌≡◌, false}
use Rattle.data_transfer.specs.Traffic.{fresh}
use Rattle.packet_channel.specs.Channel.{Channel, in_transfer}
use Rattle.packet_channel.specs.Held as held
use Rattle.packet_channel.specs.ControlView.{bodies_of}
use Rattle.packet_channel.specs.StateView.{state_of}
use Rattle.packet_channel.specs.declared.channel.Channel.TheInside.{Inside}

abbrev pub channel_of : Inside → Channel
channel_of a = record {
  state = state_of a.state;
  resetting = a.resetting;
  owed = bodies_of a.owed;
  traffic = a.traffic.traffic;
}

abbrev pub holding : Inside → held.Channel
holding a = record { channel = channel_of a; held = a.traffic.held }

-- outside data transfer nothing is in transfer
pub record IsChannel (a : Inside) : Type 0 where
  pub idle : in_transfer (state_of a.state) ≡ false → a.traffic.traffic ≡ fresh
