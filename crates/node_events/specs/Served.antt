-- What serving an event does to one node, its line and the book.
use Rattle.std.specs.Prelude.{◌≡◌, ℕ, ◌≤◌, List, [], vec_capacity, Option, Some, None}
use Rattle.link_timers.specs.declared.role.Role.{Role}
use Rattle.user_nodes.specs.declared.note.TheConstants.{MOST_NOTES}
use Rattle.data_transfer.specs.Traffic.{Taken}
use Rattle.call_records.specs.Book.{Book, takes}
use Rattle.call_records.specs.Room.{BookState}
use Rattle.user_nodes.specs.Node.{NodeState, is_pad, drained, frames_of}
use Rattle.user_nodes.specs.Turn.{Turn, told}
use Rattle.user_nodes.specs.HostTurns.{let_go}
use Rattle.user_nodes.specs.Notes.{user_notes}
use Rattle.user_nodes.specs.Writing.{IsRoomFor}
use Rattle.user_nodes.specs.declared.note.UserNote.{UserNote}
use Rattle.frame_lines.specs.Lines.{Flights, LineService}
use Rattle.net_events.specs.OneLine.{direction_of}
use Rattle.net_events.specs.NodeEvents.{NodeEvent, turn_of}
use Rattle.net_events.specs.declared.answer.Answer.{Answer}
use Rattle.net_events.specs.declared.answer.Put.{Put}
use Rattle.user_nodes.specs.declared.attachment.Attachment.{Attachment}
use Rattle.node_events.specs.Sends.{Sends}

-- the node was called, and what was asked is in the book: when its notes are read and written there as well, this is
-- the turn of the event; there is room for them
pub record IsCalled (event : NodeEvent) (role : Role) (old : NodeState) (before : Book) (node : NodeState)
    (book : BookState) : Type 0 where
  pub reads_so : told role node book.book ≡ turn_of event role old before
  pub room_for : IsRoomFor node book.room book.pairs
  pub kind : is_pad node ≡ is_pad old

-- the turn of a node is taken: its frames are put, users are told its notes, and the book is written
pub record Served (L : LineService) (at : Attachment) (turn : Turn) (before : Flights)
    (frames : List Put) (notes : List UserNote) (node : NodeState) (after : Flights) (book : Book) : Type 0 where
  pub sends : Sends L (direction_of at.role) at.line (frames_of turn.node) before frames after
  pub told_of : notes ≡ user_notes at.node turn.notes
  pub node_is : node ≡ drained turn.node
  pub book_is : book ≡ turn.book

-- no frame and no note is in an answer, with places for those of one event
pub record IsReady (a : Answer) : Type 0 where
  pub frames : a.frames.items ≡ []
  pub notes : a.notes.items ≡ []
  pub frame_places : 9 ≤ a.frames.room
  pub note_places : MOST_NOTES ≤ vec_capacity a.notes

-- and no text
pub record IsEmpty (a : Answer) : Type 0 where
  pub ready : IsReady a
  pub text : a.text.items ≡ []

-- what was taken is written, and a packet is released at once
abbrev pub taken_written : Option Taken → Role → (channel : ℕ) → Book → Book
taken_written None role channel b = b
taken_written (Some x) role channel b = let_go x role channel (takes role channel (Some x) b)
