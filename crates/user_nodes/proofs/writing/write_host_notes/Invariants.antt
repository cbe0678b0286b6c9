use Rattle.std.proofs.Common.{◌≡◌, ◌≤◌, ◌+◌, ◌++◌, length, vec_len, vec_capacity}
use Rattle.call_records.specs.Book.{all_told}
use Rattle.call_records.specs.Room.{opening_notes}
use Rattle.user_nodes.specs.Node.{all_read}
use Rattle.user_nodes.specs.Notes.{at_host, user_notes}
use Rattle.user_nodes.proofs.writing.write_host_notes.Given as goal

abbrev pub invariant-loop : goal.invariant-loop
invariant-loop l = record {
  host : all_read l.host ≡ all_read l.fn.host;
  book : all_told l.at.role l.host.notes l.book.book ≡ all_told l.at.role l.fn.host.notes l.fn.book.book;
  opening : opening_notes l.host.notes ≤ 1;
  room : opening_notes l.host.notes ≤ l.book.room;
  listed : l.notes.items ++ user_notes l.at.node (at_host l.host.notes) ≡ user_notes l.at.node (at_host l.fn.host.notes);
  left : length l.host.notes + l.counter ≡ l.end;
  places : vec_len l.notes + length l.host.notes ≤ vec_capacity l.notes;
}
