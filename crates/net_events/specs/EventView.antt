-- An event of a node or of a switch, as the code has it, in the terms of the laws of a network.
use Rattle.std.specs.Prelude.{ℕ, true, false}
use Rattle.packet_codec.specs.ClearCause as clear_cause
use Rattle.packet_codec.specs.ResetCause as reset_cause
use Rattle.packet_codec.specs.Diagnostic.{no_information}
use Rattle.packet_channel.specs.Channel.{Request as ask}
use Rattle.packet_host.specs.declared.request.HostRequest.{HostRequest}
use Rattle.packet_host.specs.declared.request.HostRequest.TheVariants.{Answer, Refuse, Say, Interrupt, Reset, Clear}
use Rattle.packet_host.specs.declared.request.HostRequest.TheVariants.{Stop, Go}
use Rattle.net_events.specs.NodeEvents as law
use Rattle.net_events.specs.AtSwitch as at_switch
use Rattle.net_events.specs.declared.node_event.HostEvent.{HostEvent}
use Rattle.net_events.specs.declared.node_event.HostEvent.TheVariants as host_event_is
use Rattle.net_events.specs.declared.node_event.LineEvent.{LineEvent}
use Rattle.net_events.specs.declared.node_event.LineEvent.TheVariants as line_event_is
use Rattle.net_events.specs.declared.node_event.UserEvent.{UserEvent}
use Rattle.net_events.specs.declared.node_event.UserEvent.TheVariants as user_event_is
use Rattle.net_events.specs.declared.switch_event.SwitchEvent.{SwitchEvent}
use Rattle.net_events.specs.declared.switch_event.SwitchEvent.TheVariants as switch_event_is

-- a host is asked something of the call on a channel
abbrev pub request_event : (channel : ℕ) → HostRequest → law.NodeEvent
request_event channel Answer = law.Asks channel ask.Accept
request_event channel Refuse = law.Refuses channel
request_event channel (Say octets qualified delivery) = law.Says channel octets.items qualified delivery
request_event channel (Interrupt octets) = law.Asks channel (ask.Interrupting octets.items)
request_event channel Reset = law.Asks channel (ask.Resetting reset_cause.dte_originated no_information)
request_event channel Clear = law.Asks channel (ask.Clearing clear_cause.dte_originated no_information)
request_event channel Stop = law.Asks channel (ask.Stopping true)
request_event channel Go = law.Asks channel (ask.Stopping false)

abbrev pub line_event_of : LineEvent → law.NodeEvent
line_event_of (line_event_is.Hears octets) = law.Hears octets.now
line_event_of (line_event_is.Expires timer) = law.Expires timer
line_event_of line_event_is.Relinks = law.Relinks
line_event_of line_event_is.Restarts = law.Restarts

abbrev pub host_event_of : HostEvent → law.NodeEvent
host_event_of (host_event_is.Calls address user_data) = law.Calls address user_data.now
host_event_of (host_event_is.Asks channel request) = request_event channel request.now
host_event_of (host_event_is.Takes channel) = law.Takes channel

abbrev pub user_event_of : UserEvent → law.NodeEvent
user_event_of (user_event_is.AtTerminal terminal event) = law.AtTerminal terminal event
user_event_of (user_event_is.AtHost event) = host_event_of event

abbrev pub switch_event_of : SwitchEvent → at_switch.SwitchEvent
switch_event_of (switch_event_is.Hears own octets) = at_switch.Hears own octets.now
switch_event_of (switch_event_is.Expires own timer) = at_switch.Expires own timer
switch_event_of (switch_event_is.Relinks own) = at_switch.Relinks own
switch_event_of switch_event_is.Restarts = at_switch.Restarts
