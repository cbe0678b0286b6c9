-- What happens to a PAD, one event after the other, and what that is an occasion to say on a call.
use Rattle.std.specs.Prelude.{◌≡◌, ℕ, Bool, true, false, not, ◌&&◌, ◌==◌, if◌then◌else◌, List, [], ◌∷◌, ◌++◌}
use Rattle.std.specs.Prelude.{slice_get, Option, Some, None, is_some, Result, Ok}
use Rattle.std.specs.Option.{option_map_or}
use Rattle.link_timers.specs.declared.role.Role.{Role}
use Rattle.link_timers.specs.declared.timers.TimerId.{TimerId}
use Rattle.lapb.specs.Machine.{Octets}
use Rattle.packet_channel.specs.Channel.Request.{Interrupting}
use Rattle.packet_layer.specs.Layer.{request_refusal}
use Rattle.data_transfer.specs.Traffic.{Taken}
use Rattle.data_transfer.specs.Traffic.Taken.{TakenInterrupt, TakenPacket}
use Rattle.call_records.specs.Book.{Book, slot_at}
use Rattle.call_records.specs.Writes.{Write, all_written}
use Rattle.call_records.specs.Writes.Write.{AllClosed}
use Rattle.x28_commands.specs.Reading.{command_of}
use Rattle.x28_commands.specs.declared.command.Command.{Command}
use Rattle.x28_commands.specs.declared.command.Command.TheVariants as command
use Rattle.x28_commands.specs.declared.fault.CommandFault.{CommandFault}
use Rattle.pad_terminal.specs.Terminal.{TerminalState, is_present, is_connected, is_data_transfer}
use Rattle.pad_terminal.specs.Calls.{without_text}
use Rattle.pad_terminal.specs.CommandLine as command_line
use Rattle.pad_ports.specs.PadLine.{interrupt_octet}
use Rattle.pad_ports.specs.Ports as port
use Rattle.pad_ports.specs.Ports.{AtLine}
use Rattle.pad_ports.specs.PadLine.{PadLine}
use Rattle.x25_pad.specs.Pad.{PadState, with_line, begun, terminal_event, after_idle, after_frame, after_timer, after_relink}
use Rattle.x25_pad.specs.Pad.{restarted, elapsed}
use Rattle.user_nodes.specs.PadWriting.{writes_of}
use Rattle.node_laws.specs.Pads.Occasions.{Occasion, TookMessage, HadBreak, HadCommand}
use Rattle.node_laws.specs.Pads.Holds.{PadTypes, HaveSaid}

-- ---- events

-- a key, a break, the end of an idle time, printing, leaving, and arriving, at the terminal of this number; a frame, an
-- expiry of a timer, a relink; a restart; ticks that pass
pub data PadEvent : Type 0 where
  HasKey : (number octet : ℕ) → PadEvent
  HasBreak : (number : ℕ) → PadEvent
  HasIdleTime : (number : ℕ) → PadEvent
  HasPrinting : (number : ℕ) → PadEvent
  HasLeaving : (number : ℕ) → PadEvent
  HasArrival : (number : ℕ) → PadEvent
  HasFrame : Octets → PadEvent
  HasExpiry : TimerId → PadEvent
  HasRelink : PadEvent
  HasRestart : PadEvent
  HasTicks : ℕ → PadEvent

abbrev pub after_event : PadEvent → PadState → PadState
after_event (HasKey number octet) p = terminal_event number (port.after_key octet) p
after_event (HasBreak number) p = terminal_event number port.after_break p
after_event (HasIdleTime number) p = after_idle number p
after_event (HasPrinting number) p = terminal_event number port.after_print p
after_event (HasLeaving number) p = terminal_event number port.after_leaving p
after_event (HasArrival number) p = terminal_event number port.after_arrival p
after_event (HasFrame octets) p = after_frame p octets
after_event (HasExpiry id) p = after_timer p id
after_event HasRelink p = after_relink p
after_event HasRestart p = restarted p
after_event (HasTicks ticks) p = elapsed ticks p

-- ---- the occasions of an event

-- the command line that a key ends, outside data transfer, of a terminal that is present
abbrev pub line_ended : ℕ → TerminalState → Option (List ℕ)
line_ended octet t =
    if is_data_transfer t.mode then None
    else if is_present t.mode then (command_line.after_key t.settings.params octet t.line).ended
    else None

abbrev pub asks_for_interrupt : Result Command CommandFault → Bool
asks_for_interrupt (Ok command.Interrupt) = true
asks_for_interrupt _ = false

-- the packet layer takes no interrupt: there is no call, or an interrupt or a reset that the PAD sent is not confirmed
abbrev pub is_pending : (call : Option ℕ) → PadLine → Bool
is_pending None l = true
is_pending (Some channel) l =
    is_some (request_refusal l.end.layer channel (Interrupting (interrupt_octet ∷ [])))

-- the command INT is carried out in a call, if neither is pending
abbrev pub by_line : Option (List ℕ) → (pending : Bool) → TerminalState → List Occasion
by_line None pending t = []
by_line (Some line) pending t =
    if asks_for_interrupt (command_of line) && is_connected t.mode && not pending then HadCommand ∷ [] else []

abbrev pub by_key : ℕ → AtLine → List Occasion
by_key octet a = by_line (line_ended octet a.port.terminal) (is_pending a.port.call a.line) a.port.terminal

-- a break is taken in a call
abbrev pub by_break : AtLine → List Occasion
by_break a =
    if is_connected a.port.terminal.mode && port.is_break_taken (port.break_answer_of a)
    then HadBreak a.port.terminal.settings.params (is_pending a.port.call a.line) ∷ []
    else []

-- a qualified packet is a message; the terminal takes it once its text was shown
abbrev pub by_taking : Option Taken → TerminalState → List Occasion
by_taking None t = []
by_taking (Some (TakenInterrupt octets)) t = []
by_taking (Some (TakenPacket d)) t = if d.qualified then TookMessage d.octets (without_text t) ∷ [] else []

abbrev pub by_printing : AtLine → List Occasion
by_printing a = by_taking (port.taken_of a) a.port.terminal

-- the channel of a call, if there is one, meets a test
abbrev pub meets : (test : ℕ → Bool) → Option ℕ → Bool
meets test None = false
meets test (Some call) = test call

-- at the terminal of this number, if the channel of its call meets the test
abbrev pub at_terminal : (number : ℕ) → (test : ℕ → Bool) → (AtLine → List Occasion) → PadState → List Occasion
at_terminal number test why p =
    option_map_or
    (λ q. if meets test q.call then why (with_line number q p) else [])
    (slice_get p.ports number) []

-- nothing else is an occasion
abbrev pub occasions_of : PadEvent → PadState → (test : ℕ → Bool) → List Occasion
occasions_of (HasKey number octet) p test = at_terminal number test (by_key octet) (begun p)
occasions_of (HasBreak number) p test = at_terminal number test by_break (begun p)
occasions_of (HasPrinting number) p test = at_terminal number test by_printing (begun p)
occasions_of event p test = []

-- ---- the occasions of a call

-- the record of this number is that of the present call of a channel
abbrev pub is_record : ℕ → Option ℕ → Bool
is_record n None = false
is_record n (Some m) = m == n

-- by an event at the PAD at the end of this role: those of the event are of the record that the terminal's call has
abbrev pub grown : (ℕ → List Occasion) → PadEvent → PadState → Role → Book → (n : ℕ) → List Occasion
grown occasions event p role b n =
    occasions n ++ occasions_of event p (λ channel. is_record n (slot_at role channel b).present)

-- what an event writes: all that was noted; a restart notes nothing, and all calls are over
abbrev pub writes_after : PadEvent → PadState → List Write
writes_after HasRestart p = AllClosed ∷ []
writes_after event p = writes_of (after_event event p).line.notes

-- ---- the law

-- of one event, if nothing of the last one is unread: each record said what its occasions ask for, with those of the
-- event, whatever they were before
abbrev pub OccasionLaw : Type 0
OccasionLaw = (event : PadEvent) (role : Role) (p : PadState) (b : Book) (occasions : ℕ → List Occasion)
    → p.line.notes ≡ [] → PadTypes role p b → HaveSaid occasions role b
    → HaveSaid (λ n. grown occasions event p role b n) role (all_written role (writes_after event p) b)
