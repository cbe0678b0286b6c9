use Rattle.std.proofs.Common.{◌≡◌, ◌≤◌, ℕ, Some, map, vec_len, vec_capacity}
use Rattle.call_records.specs.Book.{nth_slot}
use Rattle.call_records.specs.RecordView.{shown, PlacesAt, AreCounted}
use Rattle.call_records.proofs.book.reserve_present.Given as goal

abbrev pub invariant-loop-place : goal.invariant-loop-place
invariant-loop-place l = record {
  same : map shown l.records.items ≡ map shown l.fn.records.items;
  len : vec_len l.records ≡ vec_len l.fn.records;
  capacity : vec_capacity l.records ≡ vec_capacity l.fn.records;
  counted : AreCounted l.fn.records.items → AreCounted l.records.items;
  kept : (other : ℕ) → PlacesAt l.count other l.fn.records.items → PlacesAt l.count other l.records.items;
  reserved : (channel number : ℕ) → channel ≤ l.place → (nth_slot l.side.slots channel).present ≡ Some number → PlacesAt l.count number l.records.items;
}
