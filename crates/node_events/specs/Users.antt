-- What a user does at a node: when it is refused, and what it makes of the node, the line and the register.
use Rattle.std.specs.Prelude.{◌≡◌, ◌<◌, ◌≤◌, ◌⊎◌, ◌==◌, ◌&&◌, ℕ, Bool, true, not, nat_lt, if◌then◌else◌, length}
use Rattle.std.specs.Prelude.{Option, Some, None, Result, Ok, Err}
use Rattle.packet_codec.specs.Address.{AreDigits}
use Rattle.packet_end.specs.PacketEnd.{PacketEnd}
use Rattle.x25_pad.specs.Pad.{PadState}
use Rattle.call_records.specs.Book.{Book}
use Rattle.call_records.specs.Register as spec
use Rattle.call_records.specs.Register.{book_at, with_book}
use Rattle.call_records.specs.RegisterView.{register_with, lines_of}
use Rattle.call_records.specs.declared.register.Register.{Register}
use Rattle.user_nodes.specs.Node.{NodeState, Pad, Host}
use Rattle.user_nodes.specs.declared.attachment.Attachment.{Attachment}
use Rattle.user_nodes.specs.declared.fault.NodeFault.{NodeFault}
use Rattle.frame_lines.specs.Lines.{Flights, LineService}
use Rattle.net_events.specs.NodeEvents.{NodeEvent, turn_of}
use Rattle.net_events.specs.EventView.{host_event_of}
use Rattle.net_events.specs.declared.answer.Answer.{Answer}
use Rattle.net_events.specs.declared.event.StepFault.{StepFault}
use Rattle.net_events.specs.declared.event.StepFault.TheVariants.{NoSuchNode, NoSuchTerminal, NoSuchCall, Refused}
use Rattle.net_events.specs.declared.event.StepFault.TheVariants.{OutOfMemory}
use Rattle.net_events.specs.declared.node_event.HostEvent.{HostEvent}
use Rattle.net_events.specs.declared.node_event.HostEvent.TheVariants.{Calls, Asks, Takes}
use Rattle.net_events.specs.declared.node_event.UserEvent.{UserEvent}
use Rattle.net_events.specs.declared.node_event.UserEvent.TheVariants.{AtTerminal, AtHost}
use Rattle.node_events.specs.Outcomes.{event_fault, IsOutcome, text_of}
use Rattle.node_events.specs.Served.{IsCalled, Served, IsReady}

-- ---- what is refused

-- a line of so many channels has the one of which a host is asked, if it is asked of one
abbrev pub is_channel : (channels channel : ℕ) → Bool
is_channel channels channel = not (channel == 0) && not (nat_lt channels channel)

abbrev pub is_on_line : HostEvent → (channels : ℕ) → Bool
is_on_line (Calls address user_data) channels = true
is_on_line (Asks channel request) channels = is_channel channels channel
is_on_line (Takes channel) channels = is_channel channels channel

-- the channel has a number that an octet has room for
abbrev pub IsNumbered : HostEvent → Type 0
IsNumbered (Calls address user_data) = Unit {0}
IsNumbered (Asks channel request) = channel < 256
IsNumbered (Takes channel) = channel < 256

-- an address has 1 to 15 digits, and a call at most 16 octets of user data
abbrev pub IsWholeCall : HostEvent → Type 0
IsWholeCall (Calls address user_data) = AreDigits address × (length user_data.now ≤ 16)
IsWholeCall event = Unit {0}

abbrev pub IsWhole : UserEvent → Type 0
IsWhole (AtHost event) = IsWholeCall event
IsWhole (AtTerminal terminal event) = Unit {0}

-- what the node refuses
abbrev pub refused : Option NodeFault → Option StepFault
refused None = None
refused (Some fault) = Some (Refused fault)

abbrev pub terminal_fault : (terminal : ℕ) → PadState → Option StepFault
terminal_fault terminal p = if nat_lt terminal (length p.ports) then None else Some NoSuchTerminal

abbrev pub host_fault : (channels : ℕ) → HostEvent → PacketEnd → Option StepFault
host_fault channels event e =
    if is_on_line event channels then refused (event_fault (host_event_of event) (Host e)) else Some NoSuchCall

-- a PAD has terminals, and a host is asked
abbrev pub user_fault : (channels : ℕ) → UserEvent → NodeState → Option StepFault
user_fault channels (AtTerminal terminal event) (Pad p) = terminal_fault terminal p
user_fault channels (AtTerminal terminal event) (Host e) = Some NoSuchNode
user_fault channels (AtHost event) (Pad p) = Some NoSuchNode
user_fault channels (AtHost event) (Host e) = host_fault channels event e

-- the network itself does not refuse the event, though the node may
abbrev pub IsLeftToNode : Option StepFault → Type 0
IsLeftToNode None = Unit {0}
IsLeftToNode (Some (Refused fault)) = Unit {0}
IsLeftToNode (Some fault) = ⊥

-- it is refused with its fault, or for want of memory, which is looked for before the node is asked
abbrev pub IsRefusedWith : Option StepFault → StepFault → Type 0
IsRefusedWith expected fault = (expected ≡ Some fault) ⊎ IsLeftToNode expected × (fault ≡ OutOfMemory)

-- ---- what is done

-- the register is opened at a line, with room for what may be written there; with another book it is this one
pub record IsOpened (line : ℕ) (old : spec.Register) (g : Register) : Type 0 where
  pub book : g.book.book ≡ book_at line old
  pub writes : 8 ≤ g.book.room
  pub pairs : 1 ≤ g.book.pairs
  pub written : (b : Book) → register_with g.open b (lines_of g.lines.items) ≡ with_book line b old

-- the node was called, and what was asked of it is in the book
pub record IsCalledBy (at : Attachment) (event : NodeEvent) (old : NodeState) (before : spec.Register) (a : Answer)
    (node : NodeState) (g : Register) : Type 0 where
  pub called : IsCalled event at.role old (book_at at.line before) node g.book
  pub written : (b : Book) → register_with g.open b (lines_of g.lines.items) ≡ with_book at.line b before
  pub ready : IsReady a
  pub outcome : IsOutcome event old a.outcome
  pub text : a.text.items ≡ text_of event old

-- a node, the frames in flight on its line, and the register
pub record AtLine : Type 0 where
  pub node : NodeState
  pub flights : Flights
  pub register : spec.Register

-- the node had its turn: its frames were put and listed, its notes told, and all was written; this is the answer
pub record HadTurn (L : LineService) (at : Attachment) (event : NodeEvent) (s : AtLine) (a : Answer)
    (t : AtLine) : Type 0 where
  pub book : Book
  pub served : Served L at (turn_of event at.role s.node (book_at at.line s.register)) s.flights a.frames.items
      a.notes.items t.node t.flights book
  pub register : t.register ≡ with_book at.line book s.register
  pub outcome : IsOutcome event s.node a.outcome
  pub text : a.text.items ≡ text_of event s.node

-- it had its turn, or the event is refused and changes nothing
abbrev pub IsServed : LineService → Attachment → NodeEvent → Option StepFault → AtLine
    → Result Answer StepFault → AtLine → Type 0
IsServed L at event fault s (Ok a) t = (fault ≡ None) × HadTurn L at event s a t
IsServed L at event fault s (Err f) t = IsRefusedWith fault f × (t ≡ s)
