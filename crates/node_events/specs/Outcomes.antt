-- What a node answers to an event, or with which fault it refuses it.
use Rattle.std.specs.Prelude.{◌≡◌, ℕ, true, List, [], Option, Some, None, Result, MatchResult}
use Rattle.packet_channel.specs.declared.fault.ChannelFault.TheVariants as channel_fault
use Rattle.packet_channel.specs.Channel.{Refusal}
use Rattle.packet_layer.specs.Layer.{call_refusal, channel_given, request_refusal, front_on}
use Rattle.data_transfer.specs.TakenView.{maybe_front, taken_octets}
use Rattle.packet_layer.specs.declared.fault.CallFault.TheVariants as call_fault
use Rattle.packet_host.specs.Host.{refuse_refusal}
use Rattle.packet_host.specs.Saying.{say_refusal}
use Rattle.x25_pad.specs.Pad.{PadState, answer_of}
use Rattle.user_nodes.specs.Node.{NodeState, Pad, Host, end_of}
use Rattle.user_nodes.specs.Terminals.{is_taken, text_shown}
use Rattle.user_nodes.specs.declared.terminal.TerminalEvent.{TerminalEvent}
use Rattle.user_nodes.specs.declared.terminal.TerminalEvent.TheVariants.{Print, Leaves, Arrives}
use Rattle.user_nodes.specs.declared.fault.NodeFault.{NodeFault}
use Rattle.user_nodes.specs.declared.fault.NodeFault.TheVariants.{Call, Channel}
use Rattle.net_events.specs.NodeEvents.{NodeEvent, Hears, Calls, Asks, Refuses, Says}
use Rattle.net_events.specs.NodeEvents.{Takes, AtTerminal}
use Rattle.net_events.specs.declared.answer.Outcome.{Outcome}
use Rattle.net_events.specs.declared.answer.Outcome.TheVariants.{Delivered, Typed, Printed, Called, Took, Done}

-- ---- what is refused

abbrev pub call_fault_of : Option Refusal → Option NodeFault
call_fault_of None = None
call_fault_of (Some Refusal.NotReady) = Some (Call call_fault.NotReady)
call_fault_of (Some refusal) = Some (Call call_fault.NoChannel)

abbrev pub channel_fault_of : Option Refusal → Option NodeFault
channel_fault_of None = None
channel_fault_of (Some Refusal.IsResetting) = Some (Channel channel_fault.Resetting)
channel_fault_of (Some Refusal.QueueFull) = Some (Channel channel_fault.QueueFull)
channel_fault_of (Some Refusal.TooLong) = Some (Channel channel_fault.TooLong)
channel_fault_of (Some Refusal.InterruptPending) = Some (Channel channel_fault.InterruptPending)
channel_fault_of (Some refusal) = Some (Channel channel_fault.NoCall)

-- a host may refuse a call that is to be placed, and what is asked of a call; nothing else is refused
abbrev pub event_fault : NodeEvent → NodeState → Option NodeFault
event_fault (Calls address user_data) n = call_fault_of (call_refusal (end_of n).layer (end_of n).layer.phase)
event_fault (Asks channel r) n = channel_fault_of (request_refusal (end_of n).layer channel r)
event_fault (Refuses channel) n = channel_fault_of (refuse_refusal (end_of n) channel)
event_fault (Says channel octets qualified delivery) n =
    channel_fault_of (say_refusal (end_of n).layer channel octets qualified)
event_fault _ n = None

-- ---- what is answered

-- a call was placed on the channel that the packet layer gave it
pub record CalledOn (n : NodeState) (o : Outcome) : Type 0 where
  pub channel : ℕ
  pub given : channel_given (end_of n).layer (end_of n).layer.phase ≡ Some channel
  pub answered : o ≡ Called channel

-- what a PAD answers to what happens at a terminal
abbrev pub pad_outcome : (terminal : ℕ) → TerminalEvent → PadState → Outcome
pad_outcome terminal Print p = Printed
pad_outcome terminal Leaves p = Done
pad_outcome terminal Arrives p = Done
pad_outcome terminal event p = Typed (answer_of (is_taken terminal event p))

abbrev pub AnsweredAt : (terminal : ℕ) → TerminalEvent → NodeState → Outcome → Type 0
AnsweredAt terminal event (Pad p) o = o ≡ pad_outcome terminal event p
AnsweredAt terminal event (Host e) o = ⊥

-- what a terminal shows
abbrev pub text_at : (terminal : ℕ) → TerminalEvent → NodeState → List ℕ
text_at terminal event (Pad p) = text_shown terminal event p
text_at terminal event (Host e) = []

abbrev pub text_of : NodeEvent → NodeState → List ℕ
text_of (AtTerminal terminal event) n = text_at terminal event n
text_of (Takes channel) n = taken_octets (front_on (end_of n).layer channel)
text_of event n = []

abbrev pub IsOutcome : NodeEvent → NodeState → Outcome → Type 0
IsOutcome (Hears octets) n o = o ≡ Delivered true
IsOutcome (Calls address user_data) n o = CalledOn n o
IsOutcome (Takes channel) n o = o ≡ Took (maybe_front (front_on (end_of n).layer channel))
IsOutcome (AtTerminal terminal event) n o = AnsweredAt terminal event n o
IsOutcome _ n o = o ≡ Done

-- it is answered with such an outcome where nothing is refused, else refused with the fault
abbrev pub IsAnswered : NodeEvent → NodeState → Result Outcome NodeFault → Type 0
IsAnswered event n result = MatchResult result
    (λ outcome. (event_fault event n ≡ None) × IsOutcome event n outcome)
    (λ fault. event_fault event n ≡ Some fault)
