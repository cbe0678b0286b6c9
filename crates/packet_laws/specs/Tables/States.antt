-- The machine of a packet layer and the state tables name the same things: states, types of packets, events.
use Rattle.std.specs.Prelude.{ℕ, Bool, true, false, Option, Some, None}
use Rattle.link_timers.specs.declared.role.Role.{Role}
use Rattle.packet_codec.specs.declared.packet_type.PacketType.{PacketType}
use Rattle.packet_codec.specs.PacketType.{content_type}
use Rattle.call_states.specs.EndStates as places
use Rattle.call_states.specs.declared.state.CallState.{CallState}
use Rattle.call_states.specs.declared.table.UserAct.{UserAct}
use Rattle.call_states.specs.declared.table.UserAct.TheVariants as acts
use Rattle.reset_restart.specs.Reset.{own_reset}
use Rattle.reset_restart.specs.Restart.{own_restart}
use Rattle.reset_restart.specs.declared.reset.ResetState.{ResetState}
use Rattle.reset_restart.specs.declared.reset.ResetState.TheVariants as resets
use Rattle.reset_restart.specs.declared.restart.RestartState.{RestartState}
use Rattle.reset_restart.specs.declared.restart.RestartState.TheVariants as restarts
use Rattle.data_transfer.specs.Packets.{Body, Received}
use Rattle.data_transfer.specs.Packets.Received.{Whole, Unknown, Faulty}
use Rattle.data_transfer.specs.Octets.{content_of}
use Rattle.packet_channel.specs.Channel as channel
use Rattle.packet_channel.specs.Channel.{Request}
use Rattle.packet_layer.specs.Layer.{Phase}

-- ---- states

abbrev pub end_state_of : channel.ChannelState → places.EndState
end_state_of channel.ChannelState.Ready = places.EndState.Ready
end_state_of channel.ChannelState.OwnWaiting = places.EndState.OwnWaiting
end_state_of channel.ChannelState.FarWaiting = places.EndState.FarWaiting
end_state_of channel.ChannelState.Transfer = places.EndState.DataTransfer
end_state_of channel.ChannelState.Collision = places.EndState.CallCollision
end_state_of channel.ChannelState.OwnClear = places.EndState.OwnClear

-- p1 to p7
abbrev pub call_state : Role → channel.ChannelState → CallState
call_state role s = places.state_of role (end_state_of s)

-- d1, or the own one of d2 and d3
abbrev pub reset_state : Role → Bool → ResetState
reset_state role false = resets.FlowControlReady
reset_state role true = own_reset role

-- r1, or the own one of r2 and r3; none where the link has no session
abbrev pub restart_state : Role → Phase → Option RestartState
restart_state role Phase.PacketReady = Some restarts.PacketLayerReady
restart_state role Phase.OwnRestart = Some (own_restart role)
restart_state role Phase.NoSession = None

-- ---- packets

abbrev pub type_of : Body → PacketType
type_of body = content_type (content_of body)

-- the channel that is named in what comes from the link
abbrev pub channel_named : Received → ℕ
channel_named (Whole p) = p.channel
channel_named (Unknown c) = c
channel_named (Faulty c) = c

-- what it says, where it can be read
abbrev pub body_read : Received → Option Body
body_read (Whole p) = Some p.body
body_read _ = None

-- ---- what the user asks on a channel

-- the act of the call table that a request is, if it is one
abbrev pub call_act : Request → Option UserAct
call_act Request.Accept = Some acts.Accept
call_act (Request.Clearing cause diagnostic) = Some acts.Clear
call_act _ = None

-- the packet that is asked for, if any
abbrev pub packet_asked : Request → Option Body
packet_asked Request.Accept = Some Body.Accepted
packet_asked (Request.Clearing cause diagnostic) = Some (Body.Clear cause diagnostic)
packet_asked (Request.Resetting cause diagnostic) = Some (Body.Reset cause diagnostic)
packet_asked _ = None
