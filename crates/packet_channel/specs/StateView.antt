-- The states of a channel, as the code has them.
use Rattle.packet_channel.specs.Channel as spec
use Rattle.packet_channel.specs.declared.state.ChannelState.{ChannelState}
use Rattle.packet_channel.specs.declared.state.ChannelState.TheVariants as state

abbrev pub state_of : ChannelState → spec.ChannelState
state_of state.Ready = spec.ChannelState.Ready
state_of state.OwnWaiting = spec.ChannelState.OwnWaiting
state_of state.FarWaiting = spec.ChannelState.FarWaiting
state_of state.Transfer = spec.ChannelState.Transfer
state_of state.Collision = spec.ChannelState.Collision
state_of state.OwnClear = spec.ChannelState.OwnClear
