use Rattle.std.proofs.Common.{◌≡◌, ◌≤◌, ◌+◌, ◌++◌, length, vec_len, vec_capacity}
use Rattle.call_records.specs.Writes.{all_written}
use Rattle.user_nodes.specs.Notes.{at_pad, user_notes}
use Rattle.user_nodes.specs.PadWriting.{writes_of, without_notes}
use Rattle.user_nodes.specs.PadRoom.{HaveRoom}
use Rattle.user_nodes.proofs.pad_notes.write_pad_notes.Given as goal

abbrev pub invariant-loop-note : goal.invariant-loop-note
invariant-loop-note l = record {
  pad : without_notes l.pad ≡ without_notes l.fn.pad;
  book : all_written l.at.role (writes_of l.pad.line.notes) l.book.book ≡ all_written l.at.role (writes_of l.fn.pad.line.notes) l.fn.book.book;
  room : HaveRoom l.pad.line.notes l.book.room l.book.pairs;
  listed : l.notes.items ++ user_notes l.at.node (at_pad l.pad.line.noted_at l.pad.line.notes) ≡ user_notes l.at.node (at_pad l.fn.pad.line.noted_at l.fn.pad.line.notes);
  places : vec_len l.notes + length l.pad.line.notes ≤ vec_capacity l.notes;
  kept : vec_capacity l.notes ≡ vec_capacity l.fn.notes;
}

abbrev pub decreases-loop-note : goal.decreases-loop-note
decreases-loop-note l = length l.pad.line.notes
