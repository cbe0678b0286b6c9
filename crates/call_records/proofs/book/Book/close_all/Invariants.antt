use Rattle.std.proofs.Common.{◌≡◌, ◌+◌, ◌-◌}
use Rattle.call_records.specs.Closing.{closed_from, all_closed}
use Rattle.call_records.proofs.book.Book.close_all.Given as goal

abbrev pub invariant-loop-place : goal.invariant-loop-place
invariant-loop-place l = record {
  closed : closed_from (l.channels - l.place) (l.place + 1) l.role l.self.book ≡ all_closed l.role l.fn.self.book;
  room : l.self.room ≡ l.fn.self.room;
  pairs : l.self.pairs ≡ l.fn.self.pairs;
}
