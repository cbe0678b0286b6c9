-- What an event makes of a node and of the book of its line.
use Rattle.link_timers.specs.declared.role.Role.{Role}
use Rattle.call_records.specs.Book.{Book, all_told}
use Rattle.call_records.specs.Writes.{all_written}
pub use Rattle.call_records.specs.Writes.{all_sent}
use Rattle.user_nodes.specs.PadWriting.{writes_of}
use Rattle.user_nodes.specs.Node.{NodeState, Pad, Host, without_notes}
use Rattle.user_nodes.specs.Notes.{NodeNotes, no_notes, at_host, at_pad}

-- the node with the frames that wait and with all notes read, the book with all that was written, and the notes
pub record Turn : Type 0 where
  pub node : NodeState
  pub book : Book
  pub notes : NodeNotes

-- nothing happens
abbrev pub unchanged : NodeState → Book → Turn
unchanged n b = record { node = n; book = b; notes = no_notes }

-- the notes of a node are read, and written into the book
abbrev pub told : Role → NodeState → Book → Turn
told role (Pad p) b = record {
  node = without_notes (Pad p);
  book = all_written role (writes_of p.line.notes) b;
  notes = at_pad p.line.noted_at p.line.notes;
}
told role (Host e) b = record { node = without_notes (Host e); book = all_told role e.notes b; notes = at_host e.notes }
