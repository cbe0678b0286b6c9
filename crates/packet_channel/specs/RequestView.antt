-- Requests and refusals, as the code has them.
use Rattle.packet_channel.specs.Channel as spec
use Rattle.packet_channel.specs.declared.channel.requests.Request.{Request}
use Rattle.packet_channel.specs.declared.channel.requests.Request.TheVariants as request
use Rattle.packet_channel.specs.declared.fault.ChannelFault.{ChannelFault}
use Rattle.packet_channel.specs.declared.fault.ChannelFault.TheVariants as fault

abbrev pub request_of : Request → spec.Request
request_of request.Accept = spec.Request.Accept
request_of (request.Clear cause diagnostic) = spec.Request.Clearing cause diagnostic
request_of (request.Reset cause diagnostic) = spec.Request.Resetting cause diagnostic
request_of (request.Send octets more qualified delivery) =
    spec.Request.Sending (record { octets = octets.now; more = more; qualified = qualified; delivery = delivery })
request_of (request.Interrupt octets) = spec.Request.Interrupting octets.now
request_of (request.Stop stopped) = spec.Request.Stopping stopped
request_of (request.Release count) = spec.Request.Releasing count
request_of request.ConfirmInterrupt = spec.Request.Confirming

abbrev pub refusal_of : ChannelFault → spec.Refusal
refusal_of fault.NoCall = spec.Refusal.NoCall
refusal_of fault.Resetting = spec.Refusal.IsResetting
refusal_of fault.QueueFull = spec.Refusal.QueueFull
refusal_of fault.TooLong = spec.Refusal.TooLong
refusal_of fault.InterruptPending = spec.Refusal.InterruptPending
