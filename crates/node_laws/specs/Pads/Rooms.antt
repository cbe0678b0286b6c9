-- How much room the notes of an event of a PAD need in the book of its line: it is made before the event.
use Rattle.std.specs.Prelude.{◌≡◌, ℕ, ◌≤◌, []}
use Rattle.link_timers.specs.declared.timers.TimerId.{TimerId}
use Rattle.lapb.specs.Machine.{Octets}
use Rattle.user_nodes.specs.PadRoom.{HaveRoom}
use Rattle.pad_ports.specs.Ports as port
use Rattle.x25_pad.specs.Pad.{PadState, terminal_event, after_idle, after_frame, after_timer, after_relink}

-- room for two writes and for a pair is enough. So one record or epoch is opened at most, and behind it nothing is
-- written but the pair of a call that came in and what needs no room
abbrev pub NeedsTwoAtMost : PadState → Type 0
NeedsTwoAtMost p = (room pairs : ℕ) → 2 ≤ room → 1 ≤ pairs → HaveRoom p.line.notes room pairs

-- ---- at a terminal

abbrev pub KeyRoom : Type 0
KeyRoom = (p : PadState) (number octet : ℕ) → NeedsTwoAtMost (terminal_event number (port.after_key octet) p)

abbrev pub BreakRoom : Type 0
BreakRoom = (p : PadState) (number : ℕ) → NeedsTwoAtMost (terminal_event number port.after_break p)

abbrev pub PrintRoom : Type 0
PrintRoom = (p : PadState) (number : ℕ) → NeedsTwoAtMost (terminal_event number port.after_print p)

abbrev pub LeavingRoom : Type 0
LeavingRoom = (p : PadState) (number : ℕ) → NeedsTwoAtMost (terminal_event number port.after_leaving p)

abbrev pub ArrivalRoom : Type 0
ArrivalRoom = (p : PadState) (number : ℕ) → NeedsTwoAtMost (terminal_event number port.after_arrival p)

-- where nothing is left to be written of the last event, since nothing happens where the timer does not run
abbrev pub IdleRoom : Type 0
IdleRoom = (p : PadState) (number : ℕ) → p.line.notes ≡ [] → NeedsTwoAtMost (after_idle number p)

-- ---- what comes from the line

abbrev pub FrameRoom : Type 0
FrameRoom = (p : PadState) (octets : Octets) → NeedsTwoAtMost (after_frame p octets)

abbrev pub RelinkRoom : Type 0
RelinkRoom = (p : PadState) → NeedsTwoAtMost (after_relink p)

-- a timer of the line or of a terminal, where nothing is left to be written or to be read
abbrev pub TimerRoom : Type 0
TimerRoom = (p : PadState) (id : TimerId) → p.line.notes ≡ [] → p.line.end.layer.notes ≡ []
    → NeedsTwoAtMost (after_timer p id)
