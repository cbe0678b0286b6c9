-- A terminal at its port of the PAD: its call, its idle timer, and what it does at the line.
use Rattle.std.specs.Prelude.{ℕ, ◌-◌, Bool, true, false, ◌&&◌, ◌==◌, if◌then◌else◌, List, [], ◌∷◌, ◌++◌}
use Rattle.std.specs.Prelude.{Option, Some, None, is_some, is_none}
use Rattle.pad_editing.specs.Edited.{Step, key, idle}
use Rattle.x28_commands.specs.declared.command.Selection.{Selection}
use Rattle.x29_messages.specs.MessageForm.{octets_of}
use Rattle.x29_messages.specs.declared.message.Message.{Message}
use Rattle.packet_channel.specs.Channel.{Refusal, Request as ask}
use Rattle.packet_layer.specs.Layer.{channel_given, call_refusal, front_on}
use Rattle.data_transfer.specs.Packets.{Datum}
use Rattle.data_transfer.specs.Traffic.{Taken as TakenValue}
use Rattle.data_transfer.specs.Traffic.Taken.{TakenInterrupt, TakenPacket}
use Rattle.packet_end.specs.PacketEnd as end
use Rattle.pad_terminal.specs.Terminal as terminal
use Rattle.pad_terminal.specs.Terminal.{TerminalState}
use Rattle.pad_terminal.specs.Calls as calls
use Rattle.pad_terminal.specs.Output.{laid_out}
use Rattle.pad_terminal.specs.Keys as keys
use Rattle.pad_terminal.specs.Breaks as breaks
use Rattle.pad_terminal.specs.Messages as messages
use Rattle.pad_terminal.specs.declared.answers.BreakAnswer.{BreakAnswer}
use Rattle.pad_terminal.specs.declared.answers.BreakAnswer.TheVariants as break_answer
use Rattle.pad_terminal.specs.declared.answers.InputAnswer.{InputAnswer}
use Rattle.pad_terminal.specs.declared.answers.InputAnswer.TheVariants as input
use Rattle.pad_terminal.specs.declared.answers.Reply.{Reply}
use Rattle.pad_terminal.specs.declared.answers.Reply.TheVariants as reply
use Rattle.pad_terminal.specs.declared.answers.TerminalRequest.{TerminalRequest}
use Rattle.pad_terminal.specs.declared.answers.TerminalRequest.TheVariants as request
use Rattle.pad_ports.specs.Notes.{Edited}
use Rattle.pad_ports.specs.PadLine as line
use Rattle.pad_ports.specs.declared.call.PortNote.{PortNote}
use Rattle.pad_ports.specs.declared.call.PortNote.TheVariants as learnt
use Rattle.pad_ports.specs.PadLine.{PadLine}

-- the terminal, the logical channel of its call, and the ticks left of its idle timer, where it runs
pub record PortState : Type 0 where
  pub terminal : TerminalState
  pub call : Option ℕ
  pub idle_left : Option ℕ

-- a port and the line
pub record AtLine : Type 0 where
  pub port : PortState
  pub line : PadLine

abbrev pub with_terminal : TerminalState → PortState → PortState
with_terminal t p = record p { terminal = t }

-- ---- what the terminal asks

-- of its call, where there is one
abbrev pub on_call : ((channel : ℕ) → AtLine → AtLine) → Option ℕ → AtLine → AtLine
on_call act None a = a
on_call act (Some channel) a = act channel a

abbrev pub sends : (octets : List ℕ) → (qualified : Bool) → (channel : ℕ) → AtLine → AtLine
sends octets qualified channel a = record a { line = line.sent channel octets qualified a.line }

abbrev pub clears : (channel : ℕ) → AtLine → AtLine
clears channel a =
    record { port = record a.port { call = None }; line = line.cleared channel a.line }

abbrev pub resets : (channel : ℕ) → AtLine → AtLine
resets channel a = record a { line = line.reset channel a.line }

abbrev pub interrupts : (channel : ℕ) → AtLine → AtLine
interrupts channel a = record a { line = line.interrupted channel a.line }

-- the cause that is shown where a call cannot be placed: out of order, or no channel
abbrev pub refusal_cause : Option Refusal → ℕ
refusal_cause (Some Refusal.NotReady) = 9
refusal_cause _ = 5

abbrev pub placed_on : Option ℕ → Option Refusal → PortState → PortState
placed_on (Some channel) refusal p = record p { call = Some channel }
placed_on None refusal p = with_terminal (calls.cleared (refusal_cause refusal) p.terminal) p

abbrev pub places : Selection → AtLine → AtLine
places selection a = record {
  port = placed_on (channel_given a.line.end.layer a.line.end.layer.phase)
      (call_refusal a.line.end.layer a.line.end.layer.phase) a.port;
  line = line.placed selection.address selection.user_data.items a.line;
}

abbrev pub does : TerminalRequest → AtLine → AtLine
does (request.Call selection) a = places selection a
does request.Clear a = on_call clears a.port.call a
does request.Interrupt a = on_call interrupts a.port.call a
does request.Reset a = on_call resets a.port.call a

abbrev pub does_asked : Option TerminalRequest → AtLine → AtLine
does_asked None a = a
does_asked (Some r) a = does r a

-- a message in one qualified Data packet
abbrev pub tells : Option Message → AtLine → AtLine
tells None a = a
tells (Some message) a = on_call (sends (octets_of message) true) a.port.call a

-- ---- keys and idle times

-- a step of editing, and the block that it ends
abbrev pub block_sent : Option (List ℕ) → (channel : ℕ) → AtLine → AtLine
block_sent None channel a = a
block_sent (Some block) channel a = sends block false channel a

abbrev pub edits : Step → Option (List ℕ) → (channel : ℕ) → AtLine → AtLine
edits step block channel a =
    block_sent block channel (record a { line = line.noting (Edited channel step ∷ []) a.line })

abbrev pub handles : InputAnswer → Step → AtLine → AtLine
handles input.Dropped step a = a
handles (input.Edited block) step a = on_call (edits step block) a.port.call a
handles (input.Taken asked) step a = does_asked asked a

abbrev pub is_taken : InputAnswer → Bool
is_taken input.Dropped = false
is_taken (input.Edited block) = true
is_taken (input.Taken asked) = true

abbrev pub key_input : ℕ → AtLine → keys.Input
key_input o a = keys.after_octet o (line.condition a.port.call a.line) a.port.terminal

-- a key: the idle timer restarts
abbrev pub after_key : ℕ → AtLine → AtLine
after_key o a =
    handles (key_input o a).answer (key o a.port.terminal.settings.params)
    (record a { port = record a.port { terminal = (key_input o a).terminal; idle_left = None } })

abbrev pub idle_input : AtLine → keys.Input
idle_input a = keys.after_idle_time (line.condition a.port.call a.line).queue_full a.port.terminal

-- the end of the idle time
abbrev pub after_idle : AtLine → AtLine
after_idle a =
    handles (idle_input a).answer (idle a.port.terminal.settings.params)
    (record a { port = record a.port { terminal = (idle_input a).terminal; idle_left = None } })

-- ---- a break

abbrev pub break_answer_of : AtLine → BreakAnswer
break_answer_of a = breaks.answer_of (line.condition a.port.call a.line) a.port.terminal

abbrev pub answers_break : BreakAnswer → AtLine → AtLine
answers_break break_answer.Dropped a = a
answers_break (break_answer.Taken requests) a = tells requests.indication (does_asked requests.request a)

abbrev pub is_break_taken : BreakAnswer → Bool
is_break_taken break_answer.Dropped = false
is_break_taken (break_answer.Taken requests) = true

abbrev pub after_break : AtLine → AtLine
after_break a =
    answers_break (break_answer_of a)
    (record a {
      port = with_terminal (breaks.after_break (line.condition a.port.call a.line) a.port.terminal) a.port;
    })

-- ---- what the terminal is to show

-- the reply to a message
abbrev pub replies : Reply → AtLine → AtLine
replies reply.Nothing a = a
replies (reply.Message message) a = tells (Some message) a
replies reply.Clear a = on_call clears a.port.call a

abbrev pub after_message : List ℕ → AtLine → AtLine
after_message octets a =
    let answered = messages.after_octets octets a.port.terminal in
    replies answered.reply (record a { port = with_terminal answered.terminal a.port })

-- what waits first is taken
abbrev pub takes : TakenValue → (channel : ℕ) → AtLine → AtLine
takes taken channel a = record a { line = line.taken channel (Some taken) a.line }

-- P(R) may pass it, or an interrupt is confirmed
abbrev pub releases : ask → (channel : ℕ) → AtLine → AtLine
releases r channel a = record a { line = record a.line { end = end.asked a.line.end channel r } }

-- what is taken: an interrupt shows nothing, a qualified packet is a message, another is shown
abbrev pub after_datum : Datum → Bool → AtLine → AtLine
after_datum d true a = after_message d.octets a
after_datum d false a = record a { port = with_terminal (calls.displayed d.octets a.port.terminal) a.port }

abbrev pub after_taking : TakenValue → (channel : ℕ) → AtLine → AtLine
after_taking (TakenInterrupt octets) channel a = releases ask.Confirming channel a
after_taking (TakenPacket d) channel a = after_datum d d.qualified (releases (ask.Releasing 1) channel a)

abbrev pub text_of_datum : Datum → Bool → TerminalState → List ℕ
text_of_datum d true t = []
text_of_datum d false t = (laid_out d.octets t.settings.params t.output.column).text

abbrev pub text_of : TakenValue → TerminalState → List ℕ
text_of (TakenInterrupt octets) t = []
text_of (TakenPacket d) t = text_of_datum d d.qualified t

-- a message may need a place in the send queue for its reply
abbrev pub is_qualified : TakenValue → Bool
is_qualified (TakenInterrupt octets) = false
is_qualified (TakenPacket d) = d.qualified

abbrev pub unless_full : Bool → TakenValue → Option TakenValue
unless_full queue_full taken = if is_qualified taken && queue_full then None else Some taken

abbrev pub takeable : Option TakenValue → Bool → Option TakenValue
takeable None queue_full = None
takeable (Some taken) queue_full = unless_full queue_full taken

-- what is taken for the terminal, if anything
abbrev pub next_on : Option ℕ → AtLine → Option TakenValue
next_on None a = None
next_on (Some channel) a =
    takeable (front_on a.line.end.layer channel) (line.condition (Some channel) a.line).queue_full

abbrev pub taken_of : AtLine → Option TakenValue
taken_of a = if terminal.may_show a.port.terminal then next_on a.port.call a else None

abbrev pub with_taken : Option TakenValue → AtLine → AtLine
with_taken None a = a
with_taken (Some taken) a = on_call (takes taken) a.port.call a

abbrev pub after_taken : Option TakenValue → AtLine → AtLine
after_taken None a = a
after_taken (Some taken) a = on_call (after_taking taken) a.port.call a

abbrev pub text_on_call : Option ℕ → TakenValue → TerminalState → List ℕ
text_on_call None taken t = []
text_on_call (Some channel) taken t = text_of taken t

abbrev pub text_taken : Option TakenValue → TerminalState → List ℕ
text_taken None t = []
text_taken (Some taken) t = text_of taken t

-- the text that waits, and then one packet
abbrev pub after_print : AtLine → AtLine
after_print a =
    after_taken (taken_of a)
    (with_taken (taken_of a) (record a { port = with_terminal (calls.without_text a.port.terminal) a.port }))

abbrev pub printed : AtLine → List ℕ
printed a = a.port.terminal.output.text ++ text_taken (taken_of a) a.port.terminal

-- ---- what the terminal learns of its call

abbrev pub channel_of : PortNote → ℕ
channel_of (learnt.Connected channel) = channel
channel_of (learnt.Cleared channel cause) = channel
channel_of (learnt.Reset channel cause) = channel

-- its call is that on the channel
abbrev pub has_channel : Option ℕ → (channel : ℕ) → Bool
has_channel None channel = false
has_channel (Some own) channel = own == channel

abbrev pub connects : (channel : ℕ) → PortState → PortState
connects channel p = record p { terminal = calls.connected p.terminal; call = Some channel }

abbrev pub learns : PortNote → PortState → PortState
learns (learnt.Connected channel) p = connects channel p
learns (learnt.Cleared channel cause) p =
    record p { terminal = calls.cleared cause p.terminal; call = None }
learns (learnt.Reset channel cause) p = with_terminal (calls.reset cause p.terminal) p

-- ---- the end of an event

-- the idle timer runs as the terminal wants it: one that runs goes on
abbrev pub brought : Option ℕ → Option ℕ → Option ℕ
brought None left = None
brought (Some ticks) None = Some ticks
brought (Some ticks) (Some left) = Some left

-- a terminal that was told to stop may go on
abbrev pub settled : PadLine → PortState → PortState
settled l p =
    let t = calls.resumed (line.condition p.call l).queue_full p.terminal in
    record p { terminal = t; idle_left = brought (terminal.idle_time t) p.idle_left }

-- ---- time and restart

abbrev pub ticked : (ticks : ℕ) → Option ℕ → Option ℕ
ticked ticks None = None
ticked ticks (Some left) = Some (left - ticks)

abbrev pub elapsed : (ticks : ℕ) → PortState → PortState
elapsed ticks p = record p { idle_left = ticked ticks p.idle_left }

abbrev pub has_expired : Option ℕ → Bool
has_expired None = false
has_expired (Some left) = left == 0

abbrev pub is_due : PortState → Bool
is_due p = has_expired p.idle_left

-- a port as it is made, with the call that stands on a channel or none
abbrev pub new_port : (params : List ℕ) → (standing : Option ℕ) → PortState
new_port params standing =
    record { terminal = terminal.made params (is_some standing); call = standing; idle_left = None }

abbrev pub restarted : PortState → PortState
restarted p =
    record { terminal = terminal.made p.terminal.settings.initial false; call = None; idle_left = None }

-- ---- a terminal that leaves

abbrev pub left : PortState → PortState
left p = record { terminal = terminal.left p.terminal.settings.initial; call = None; idle_left = None }

-- its call is cleared as by the command CLR, and nothing is left of what was typed, shown and set
abbrev pub after_leaving : AtLine → AtLine
after_leaving a =
    let cleared = on_call clears a.port.call a in record cleared { port = left cleared.port }

-- ---- a terminal that arrives

abbrev pub arrived : PortState → PortState
arrived p = with_terminal (terminal.arrived p.terminal) p

-- that asks nothing of the line
abbrev pub after_arrival : AtLine → AtLine
after_arrival a = record a { port = arrived a.port }

-- a call may be given to it: it has none, and its terminal is present
abbrev pub is_free : PortState → Bool
is_free p = terminal.is_present p.terminal.mode && is_none p.call
