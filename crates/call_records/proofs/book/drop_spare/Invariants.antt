use Rattle.std.proofs.Common.{◌≡◌, map, take, vec_len, vec_capacity}
use Rattle.call_records.specs.RecordView.{shown, NoPlacesAt, AreCounted}
use Rattle.call_records.proofs.book.drop_spare.Given as goal

abbrev pub invariant-loop-number : goal.invariant-loop-number
invariant-loop-number l = record {
  same : map shown l.records.items ≡ map shown l.fn.records.items;
  len : vec_len l.records ≡ vec_len l.fn.records;
  capacity : vec_capacity l.records ≡ vec_capacity l.fn.records;
  counted : AreCounted l.fn.records.items → AreCounted l.records.items;
  fits : NoPlacesAt (take l.number-index l.numbers) l.records.items;
}
