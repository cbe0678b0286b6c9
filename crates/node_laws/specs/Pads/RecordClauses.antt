-- What each event makes of what holds of a PAD and of the book. Nothing is assumed of what arrives, nor of the other
-- node.
use Rattle.std.specs.Prelude.{◌≡◌, ℕ, List, [], ◌∷◌, slice_get, Some}
use Rattle.link_timers.specs.declared.role.Role.{Role}
use Rattle.link_timers.specs.declared.timers.TimerId.{TimerId}
use Rattle.link_timers.specs.Role.{other_of}
use Rattle.lapb.specs.Machine.{Octets}
use Rattle.call_records.specs.Records.{RecordValue}
use Rattle.call_records.specs.Book.{Book, made_book}
use Rattle.call_records.specs.Writes.{Write, all_written}
use Rattle.call_records.specs.Writes.Write.{AllClosed}
use Rattle.pad_ports.specs.Ports as port
use Rattle.x25_pad.specs.Pad.{PadState, terminal_event, after_frame, after_timer, after_relink, restarted}
use Rattle.x25_pad.specs.Pad.{elapsed}
use Rattle.x25_pad.specs.Making.{made, IsConfig}
use Rattle.x25_pad.specs.declared.config.PadConfig.{PadConfig}
use Rattle.user_nodes.specs.PadWriting.{writes_of}
use Rattle.node_laws.specs.Pads.Standing.{drained}
use Rattle.node_laws.specs.Pads.Courses.{IsRecordOf, PadSends, PadHolds}

-- ---- what it says, and the making

-- on each of its calls a PAD sent what its terminal typed, and of itself what its occasions ask for, all in one course
abbrev pub SentLaw : Type 0
SentLaw = (role : Role) (p : PadState) (b : Book) → PadHolds role p b → (place : ℕ) (records : List RecordValue)
    → ((i : ℕ) (r : RecordValue) → slice_get records i ≡ Some r → r.node ≡ place → IsRecordOf role b r)
    → PadSends role p place records

-- a PAD that is made for a line between two nodes, with a call that stands or none
abbrev pub MadeHolds : Type 0
MadeHolds = (role : Role) (c : PadConfig) (dte_node dce_node channels : ℕ) → (dte_node ≡ dce_node → ⊥) → IsConfig c
    → PadHolds role (made c) (made_book dte_node dce_node channels c.line.standing)

-- ---- at the PAD

-- what it noted is written
abbrev pub HoldsAfter : Role → (b : Book) → PadState → Type 0
HoldsAfter role b p = PadHolds role p (all_written role (writes_of p.line.notes) b)

abbrev pub KeyHolds : Type 0
KeyHolds = (role : Role) (p : PadState) (number octet : ℕ) (b : Book) → PadHolds role p b
    → HoldsAfter role b (terminal_event number (port.after_key octet) p)

abbrev pub BreakHolds : Type 0
BreakHolds = (role : Role) (p : PadState) (number : ℕ) (b : Book) → PadHolds role p b
    → HoldsAfter role b (terminal_event number port.after_break p)

abbrev pub LeavingHolds : Type 0
LeavingHolds = (role : Role) (p : PadState) (number : ℕ) (b : Book) → PadHolds role p b
    → HoldsAfter role b (terminal_event number port.after_leaving p)

abbrev pub ArrivalHolds : Type 0
ArrivalHolds = (role : Role) (p : PadState) (number : ℕ) (b : Book) → PadHolds role p b
    → HoldsAfter role b (terminal_event number port.after_arrival p)

abbrev pub PrintHolds : Type 0
PrintHolds = (role : Role) (p : PadState) (number : ℕ) (b : Book) → PadHolds role p b
    → HoldsAfter role b (terminal_event number port.after_print p)

abbrev pub FrameHolds : Type 0
FrameHolds = (role : Role) (p : PadState) (octets : Octets) (b : Book) → PadHolds role p b
    → HoldsAfter role b (after_frame p octets)

abbrev pub RelinkHolds : Type 0
RelinkHolds = (role : Role) (p : PadState) (b : Book) → PadHolds role p b → HoldsAfter role b (after_relink p)

-- a timer of the line or of a terminal, where nothing is left to be written of the last event
abbrev pub TimerHolds : Type 0
TimerHolds = (role : Role) (p : PadState) (id : TimerId) (b : Book) → p.line.notes ≡ [] → PadHolds role p b
    → HoldsAfter role b (after_timer p id)

-- of a restart nothing is noted: all calls are closed
abbrev pub RestartHolds : Type 0
RestartHolds = (role : Role) (p : PadState) (b : Book) → PadHolds role p b
    → PadHolds role (restarted p) (all_written role (AllClosed ∷ []) b)

abbrev pub TimeHolds : Type 0
TimeHolds = (role : Role) (p : PadState) (ticks : ℕ) (b : Book) → PadHolds role p b → PadHolds role (elapsed ticks p) b

-- notes are read, and frames go out
abbrev pub DrainedHolds : Type 0
DrainedHolds = (role : Role) (p : PadState) (b : Book) → PadHolds role p b → PadHolds role (drained p) b

-- ---- at the other end of the line, whatever is written there

abbrev pub FarHolds : Type 0
FarHolds = (role : Role) (p : PadState) (writes : List Write) (b : Book) → PadHolds role p b
    → PadHolds role p (all_written (other_of role) writes b)
