-- A channel and the buffers that it holds.
use Rattle.std.specs.Prelude.{◌≡◌, ◌+◌, ◌≤◌, true, List, length}
use Rattle.flow_window.specs.Pool.{Buffer}
use Rattle.data_transfer.specs.Held.{are_short}
use Rattle.data_transfer.specs.declared.flow.Flow.{Flow}
use Rattle.packet_channel.specs.Channel as channel

-- a channel, and the buffers that it holds
pub record Channel : Type 0 where
  pub channel : channel.Channel
  pub held : List Buffer

-- no more packets wait to be taken than the window has room for, no more buffers are held than that and the send queue
-- have room for, and no packet is larger than the line's size
pub record Fits (flow : Flow) (c : Channel) : Type 0 where
  pub arrived : length c.channel.traffic.arrived ≤ flow.window
  pub held : length c.held ≤ flow.window + 8
  pub arrived_short : are_short flow.size c.channel.traffic.arrived ≡ true
  pub waiting_short : are_short flow.size c.channel.traffic.waiting ≡ true
