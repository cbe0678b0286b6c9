use Rattle.std.proofs.Common.{◌≡◌, ◌≤◌, ℕ, Some}
use Rattle.call_records.specs.Book.{nth_slot}
use Rattle.call_records.specs.RecordView.{PlacesAt}
use Rattle.call_records.proofs.ends.Side.least_places.Given as goal

abbrev pub invariant-loop-slot : goal.invariant-loop-slot
invariant-loop-slot l = record {
  least : (channel number : ℕ) → channel ≤ l.slot-index → (nth_slot l.slots channel).present ≡ Some number → PlacesAt l.least number l.records;
}
