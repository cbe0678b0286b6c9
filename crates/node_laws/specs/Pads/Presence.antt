-- A terminal that leaves and arrives: nothing of what was before is left, and what is shown is of calls that began since.
use Rattle.std.specs.Prelude.{◌≡◌, ℕ, ◌≤◌, ◌⊎◌, true, false, List, [], ◌∷◌, Contains, length, slice_get, Some, None}
use Rattle.link_timers.specs.declared.role.Role.{Role}
use Rattle.data_transfer.specs.Packets.Note.{Incoming}
use Rattle.data_transfer.specs.Traffic.{Taken}
use Rattle.packet_layer.specs.Layer.{front_on}
use Rattle.call_records.specs.Book.{Book, slot_at}
use Rattle.pad_terminal.specs.Terminal.{left, is_present}
use Rattle.pad_ports.specs.Notes.{ChannelNote, Told, Placed}
use Rattle.pad_ports.specs.Ports.{PortState, new_port, arrived}
use Rattle.x25_pad.specs.Pad.{PadState, key_taken, break_taken, print_taken, print_text}
use Rattle.node_laws.specs.Pads.Happening.{PadEvent, HasLeaving, HasArrival, HasRestart, after_event}
use Rattle.node_laws.specs.Pads.Courses.{Here, Course, happened}
use Rattle.node_laws.specs.Pads.EventCourses.{IsElsewhere}

-- ---- a terminal that is absent

-- with these initial parameters, and nothing else
abbrev pub absent_port : (params : List ℕ) → PortState
absent_port params = record { terminal = left params; call = None; idle_left = None }

abbrev pub IsAbsentAt : (number : ℕ) → (params : List ℕ) → PadState → Type 0
IsAbsentAt number params p = slice_get p.ports number ≡ Some (absent_port params)

-- so is one that leaves, whatever it was before
abbrev pub LeavesLaw : Type 0
LeavesLaw = (p : PadState) (number : ℕ) (q : PortState) → slice_get p.ports number ≡ Some q
    → IsAbsentAt number q.terminal.settings.initial (after_event (HasLeaving number) p)

-- its arrival and a restart of the PAD make it present
abbrev pub LeavesAbsent : (number : ℕ) → PadEvent → Type 0
LeavesAbsent number (HasArrival other) = other ≡ number → ⊥
LeavesAbsent number HasRestart = ⊥
LeavesAbsent number event = Unit {0}

-- and nothing else does
abbrev pub StaysAbsentLaw : Type 0
StaysAbsentLaw = (event : PadEvent) (p : PadState) (number : ℕ) (params : List ℕ) → LeavesAbsent number event
    → IsAbsentAt number params p → IsAbsentAt number params (after_event event p)

-- it is shown nothing, and its keys and breaks are dropped
pub record IsCutOffAt (number : ℕ) (p : PadState) : Type 0 where
  pub nothing_taken : print_taken number p ≡ None
  pub nothing_shown : print_text number p ≡ []
  pub keys : (octet : ℕ) → key_taken number octet p ≡ false
  pub breaks : break_taken number p ≡ false

abbrev pub AbsentLaw : Type 0
AbsentLaw = (p : PadState) (number : ℕ) (params : List ℕ) → IsAbsentAt number params p → IsCutOffAt number p

-- ---- a terminal that arrives

-- it is as one that is made
abbrev pub ArrivesLaw : Type 0
ArrivesLaw = (p : PadState) (number : ℕ) (params : List ℕ) → IsAbsentAt number params p
    → slice_get (after_event (HasArrival number) p).ports number ≡ Some (new_port params None)

-- one that is present stays as it is
abbrev pub PresentLaw : Type 0
PresentLaw = (q : PortState) → is_present q.terminal.mode ≡ true → arrived q ≡ q

-- ---- calls that begin

-- the channels of the calls that were placed or came in, by the notes of an event
abbrev pub begun_in : List ChannelNote → List ℕ
begun_in [] = []
begun_in (Placed channel address ∷ notes) = channel ∷ begun_in notes
begun_in (Told (Incoming channel parts) ∷ notes) = channel ∷ begun_in notes
begun_in (note ∷ notes) = begun_in notes

abbrev pub begun_by : PadEvent → PadState → List ℕ
begun_by event p = begun_in (after_event event p).line.notes

-- after an event a terminal has the call that it had, or one that began in the event
abbrev pub CallLaw : Type 0
CallLaw = (event : PadEvent) (p : PadState) (number call : ℕ) (q r : PortState) → slice_get p.ports number ≡ Some q
    → slice_get (after_event event p).ports number ≡ Some r → r.call ≡ Some call
    → (q.call ≡ Some call) ⊎ Contains (begun_by event p) call

-- ---- what is shown since an arrival

-- in a course the terminal of this number arrived when the book had so many records
pub data HasArrived (role : Role) (number records : ℕ) : Course → Type 0 where
  arrives : (s : Course) → (params : List ℕ) → length s.book.records ≡ records → IsAbsentAt number params s.pad
      → HasArrived role number records (happened role (Here (HasArrival number)) s)
  continues : {s : Course} → HasArrived role number records s → (event : PadEvent)
      → HasArrived role number records (happened role (Here event) s)
  elsewhere : {s : Course} → HasArrived role number records s → (b : Book) → IsElsewhere role s.book b
      → HasArrived role number records (record s { book = b })

-- what is printed at it is taken of a call that it has, whose record was made since
pub record IsShownOf (role : Role) (number records : ℕ) (s : Course) (x : Taken) : Type 0 where
  pub call : ℕ
  pub front : front_on s.pad.line.end.layer call ≡ Some x
  pub since : (n : ℕ) → (slot_at role call s.book).present ≡ Some n → records ≤ n

abbrev pub ShownLaw : Type 0
ShownLaw = (role : Role) (number records : ℕ) (s : Course) (x : Taken) → HasArrived role number records s
    → print_taken number s.pad ≡ Some x → IsShownOf role number records s x
