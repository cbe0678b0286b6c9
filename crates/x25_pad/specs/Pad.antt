-- A PAD at the DTE's end of a line, with its terminals at their ports: what each event makes of it.
use Rattle.std.specs.Prelude.{ℕ, Bool, true, false, if◌then◌else◌, List, [], ◌∷◌, map, fold}
use Rattle.std.specs.Prelude.{slice_get, slice_set, position, drop, is_some, Option, Some, None}
use Rattle.std.specs.Option.{option_map_or}
use Rattle.link_timers.specs.declared.timers.TimerId.{TimerId}
use Rattle.link_timers.specs.declared.timers.TimerId.TheVariants.{Idle}
use Rattle.data_transfer.specs.Packets.{Note}
use Rattle.data_transfer.specs.Traffic.{Taken as TakenValue}
use Rattle.packet_end.specs.PacketEnd.{Octets, PacketEnd}
use Rattle.packet_end.specs.PacketEnd as end
use Rattle.pad_ports.specs.PadLine as line
use Rattle.pad_ports.specs.PadLine.{gathered, last_incoming, learnt_of, all_learnt, about}
use Rattle.pad_ports.specs.Notes.{PadNote, first_noted}
use Rattle.pad_ports.specs.Ports as port
use Rattle.pad_ports.specs.Ports.{PortState, AtLine}
use Rattle.pad_ports.specs.declared.call.PortNote.{PortNote}
use Rattle.pad_ports.specs.PadLine.{PadLine}
use Rattle.x25_pad.specs.declared.answer.PadAnswer.{PadAnswer}
use Rattle.x25_pad.specs.declared.answer.PadAnswer.TheVariants as answer

-- its end of the line with its notes, and its ports in the order of their terminals
pub record PadState : Type 0 where
  pub line : PadLine
  pub ports : List PortState

-- ---- ports by number

abbrev pub changed_at : (number : ℕ) → (PortState → PortState) → List PortState → List PortState
changed_at number change ports =
    option_map_or (λ p. slice_set ports number (change p)) (slice_get ports number) ports

-- a terminal's port and the line, where what happens next happens at that terminal
abbrev pub with_line : (number : ℕ) → PortState → PadState → AtLine
with_line number found p = record { port = found; line = line.at_terminal (Some number) p.line }

abbrev pub acted : (number : ℕ) → PadState → AtLine → PadState
acted number p a = record { line = a.line; ports = slice_set p.ports number a.port }

-- something happens at a terminal, of which the notes are then
abbrev pub at_port : (number : ℕ) → (AtLine → AtLine) → PadState → PadState
at_port number act p =
    option_map_or (λ found. acted number p (act (with_line number found p))) (slice_get p.ports number) p

-- ---- what the packet layer tells

-- the terminal whose call is on the channel learns what became of it
abbrev pub learnt_at : Option ℕ → PortNote → List PortState → List PortState
learnt_at None note ports = ports
learnt_at (Some number) note ports = changed_at number (port.learns note) ports

abbrev pub holder : (channel : ℕ) → List PortState → Option ℕ
holder channel ports = position (λ p. port.has_channel p.call channel) ports

abbrev pub one_learnt : List PortState → PortNote → List PortState
one_learnt ports note = learnt_at (holder (port.channel_of note) ports) note ports

-- one note after the other
unfoldable pub all_heard : List PortNote → List PortState → List PortState
all_heard notes ports = fold one_learnt ports notes

-- each note is of the terminal that has the call on its channel when it is told
abbrev pub holders : List PortState → List Note → List (Option ℕ)
holders ports [] = []
holders ports (note ∷ notes) = holder (about note) ports ∷ holders (all_heard (learnt_of note) ports) notes

-- a call that comes in is accepted for the first terminal that is present and has no call. If there is none it is
-- cleared, and is no terminal's
abbrev pub answered_at : Option ℕ → (channel : ℕ) → PadState → PadState
answered_at None channel p = record p { line = line.cleared channel (line.at_terminal None p.line) }
answered_at (Some number) channel p = record {
  line = line.accepted channel (line.at_terminal (Some number) p.line);
  ports = changed_at number (port.connects channel) p.ports;
}

abbrev pub first_free : List PortState → Option ℕ
first_free ports = position port.is_free ports

abbrev pub answered : Option ℕ → PadState → PadState
answered None p = p
answered (Some channel) p = answered_at (first_free p.ports) channel p

-- the terminals learn what became of their calls
abbrev pub told : PadState → PadState
told p = record {
  line = gathered (holders p.ports p.line.end.notes) p.line;
  ports = all_heard (all_learnt p.line.end.notes) p.ports;
}

-- ---- events

-- what was not taken of the last event is dropped
abbrev pub begun : PadState → PadState
begun p = record p { line = line.silent_line (end.begun p.line.end) }

abbrev pub with_end : PacketEnd → PadState → PadState
with_end e p = record p { line = record p.line { end = e } }

abbrev pub all_settled : PadState → PadState
all_settled p = record p { ports = map (port.settled p.line) p.ports }

-- the end of an event
abbrev pub ended : PadState → PadState
ended p = all_settled (told (with_end (end.finished p.line.end) p))

-- what the end of the line has taken is heeded: the terminals learn of it, and a call that came in is answered
abbrev pub heeded : PadState → PadState
heeded p = answered (last_incoming None p.line.end.notes) (told p)

-- an event that came from the line, from when the end of the line has taken it
abbrev pub line_event : PadState → PadState
line_event p = ended (heeded p)

-- the end of the line has taken a frame, a relink, or an expiry
abbrev pub with_frame : PadState → Octets → PadState
with_frame p octets = with_end (end.received (begun p).line.end octets) (begun p)

abbrev pub with_relink : PadState → PadState
with_relink p = with_end (end.relinked (begun p).line.end) (begun p)

abbrev pub with_expiry : PadState → TimerId → PadState
with_expiry p id = with_end (end.after_timer (begun p).line.end id) (begun p)

abbrev pub after_frame : PadState → Octets → PadState
after_frame p octets = line_event (with_frame p octets)

abbrev pub after_relink : PadState → PadState
after_relink p = line_event (with_relink p)

-- a timer of the line expires: where it does not run nothing happens
abbrev pub after_expiry : PadState → TimerId → PadState
after_expiry p id = if end.runs_at p.line.end id then line_event (with_expiry p id) else p

-- something happens at a terminal, and that is an event
abbrev pub terminal_event : (number : ℕ) → (AtLine → AtLine) → PadState → PadState
terminal_event number act p = ended (at_port number act (begun p))

-- ---- what is answered of it

abbrev pub answer_of : Bool → PadAnswer
answer_of true = answer.Taken
answer_of false = answer.Dropped

-- of what happens at a terminal, and of an event there
abbrev pub taken_at : (number : ℕ) → (AtLine → Bool) → PadState → Bool
taken_at number taken p =
    option_map_or (λ found. taken (with_line number found p)) (slice_get p.ports number) false

abbrev pub key_taken_now : (number octet : ℕ) → PadState → Bool
key_taken_now number octet p = taken_at number (λ a. port.is_taken (port.key_input octet a).answer) p

abbrev pub key_taken : (number octet : ℕ) → PadState → Bool
key_taken number octet p = key_taken_now number octet (begun p)

abbrev pub break_taken_now : (number : ℕ) → PadState → Bool
break_taken_now number p = taken_at number (λ a. port.is_break_taken (port.break_answer_of a)) p

abbrev pub break_taken : (number : ℕ) → PadState → Bool
break_taken number p = break_taken_now number (begun p)

abbrev pub idle_taken_now : (number : ℕ) → PadState → Bool
idle_taken_now number p = taken_at number (λ a. port.is_taken (port.idle_input a).answer) p

-- ---- what is taken and shown by printing

abbrev pub print_taken_now : (number : ℕ) → PadState → Option TakenValue
print_taken_now number p =
    option_map_or (λ found. port.taken_of (with_line number found p)) (slice_get p.ports number) None

abbrev pub print_taken : (number : ℕ) → PadState → Option TakenValue
print_taken number p = print_taken_now number (begun p)

abbrev pub print_text_now : (number : ℕ) → PadState → List ℕ
print_text_now number p =
    option_map_or (λ found. port.printed (with_line number found p)) (slice_get p.ports number) []

abbrev pub print_text : (number : ℕ) → PadState → List ℕ
print_text number p = print_text_now number (begun p)

-- ---- timers

abbrev pub runs_idle_timer : (number : ℕ) → PadState → Bool
runs_idle_timer number p = option_map_or (λ found. is_some found.idle_left) (slice_get p.ports number) false

-- an idle timer that does not run changes nothing
abbrev pub after_idle : (number : ℕ) → PadState → PadState
after_idle number p = if runs_idle_timer number p then terminal_event number port.after_idle p else p

abbrev pub idle_taken : (number : ℕ) → PadState → Bool
idle_taken number p = if runs_idle_timer number p then idle_taken_now number (begun p) else true

abbrev pub runs_at : PadState → TimerId → Bool
runs_at p (Idle number) = runs_idle_timer number p
runs_at p id = end.runs_at p.line.end id

abbrev pub after_timer : PadState → TimerId → PadState
after_timer p (Idle number) = after_idle number p
after_timer p id = after_expiry p id

-- ---- time, restart, frames and notes

abbrev pub elapsed : (ticks : ℕ) → PadState → PadState
elapsed ticks p = record p {
  line = record p.line { end = end.elapsed p.line.end ticks };
  ports = map (port.elapsed ticks) p.ports;
}

abbrev pub idle_due : Option ℕ → Option TimerId
idle_due None = None
idle_due (Some number) = Some (Idle number)

-- the first timer with no tick left: those of the line before those of the terminals
abbrev pub due : PadState → Option TimerId
due p = end.either_timer (end.due p.line.end) (idle_due (position (λ q. port.is_due q) p.ports))

-- the PAD restarts, without a call
abbrev pub restarted : PadState → PadState
restarted p = record {
  line = line.silent_line (end.restarted p.line.end);
  ports = map port.restarted p.ports;
}

-- its first note, with the terminal
abbrev pub first_note : PadState → Option PadNote
first_note p = first_noted p.line.noted_at p.line.notes

abbrev pub without_first_note : PadState → PadState
without_first_note p =
    record p { line = record p.line { notes = drop 1 p.line.notes; noted_at = drop 1 p.line.noted_at } }
