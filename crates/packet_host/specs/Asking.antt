-- What the user of a host asks of a call: when it is refused, and what it makes of the host.
use Rattle.std.specs.Prelude.{ℕ, true, false, Option}
use Rattle.data_transfer.specs.Cutting.{cut}
use Rattle.packet_channel.specs.Channel.{Refusal}
use Rattle.packet_channel.specs.Channel.{Request as ask}
use Rattle.packet_layer.specs.Layer.{request_refusal}
use Rattle.packet_end.specs.PacketEnd.{PacketEnd, asked}
use Rattle.packet_host.specs.Host.{refuse_refusal, unless_refused, ended}
use Rattle.packet_host.specs.Saying.{message, queued, say_refusal}
use Rattle.packet_host.specs.declared.request.HostRequest.{HostRequest}
use Rattle.packet_host.specs.declared.request.HostRequest.TheVariants.{Answer, Refuse, Say, Interrupt, Reset, Clear}
use Rattle.packet_host.specs.declared.request.HostRequest.TheVariants.{Stop, Go}

-- what a host refuses of a request on a channel
abbrev pub ask_refusal : PacketEnd → (channel : ℕ) → HostRequest → Option Refusal
ask_refusal e channel Answer = request_refusal e.layer channel ask.Accept
ask_refusal e channel Refuse = refuse_refusal e channel
ask_refusal e channel (Say octets qualified delivery) = say_refusal e.layer channel octets.items qualified
ask_refusal e channel (Interrupt octets) = request_refusal e.layer channel (ask.Interrupting octets.items)
ask_refusal e channel Reset = request_refusal e.layer channel (ask.Resetting 0 0)
ask_refusal e channel Clear = request_refusal e.layer channel (ask.Clearing 0 0)
ask_refusal e channel Stop = request_refusal e.layer channel (ask.Stopping true)
ask_refusal e channel Go = request_refusal e.layer channel (ask.Stopping false)

-- what a request makes of the end of the line, if it is not refused
abbrev pub asked_for : PacketEnd → (channel : ℕ) → HostRequest → PacketEnd
asked_for e channel Answer = asked e channel ask.Accept
asked_for e channel Refuse = asked e channel (ask.Clearing 0 0)
asked_for e channel (Say octets qualified delivery) =
    queued channel (cut e.layer.flow.size (message octets.items qualified delivery)) e
asked_for e channel (Interrupt octets) = asked e channel (ask.Interrupting octets.items)
asked_for e channel Reset = asked e channel (ask.Resetting 0 0)
asked_for e channel Clear = asked e channel (ask.Clearing 0 0)
asked_for e channel Stop = asked e channel (ask.Stopping true)
asked_for e channel Go = asked e channel (ask.Stopping false)

-- the host after the request: one that is refused changes nothing
abbrev pub after_ask : PacketEnd → (channel : ℕ) → HostRequest → PacketEnd
after_ask e channel request = unless_refused (ask_refusal e channel request) (ended (asked_for e channel request)) e
