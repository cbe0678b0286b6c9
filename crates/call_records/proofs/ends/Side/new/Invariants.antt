use Rattle.std.proofs.Common.{◌≡◌, length, replicate}
use Rattle.call_records.specs.Book.{free_slot}
use Rattle.call_records.proofs.ends.Side.new.Given as goal

abbrev pub invariant-loop : goal.invariant-loop
invariant-loop l = record { len : length l.slots.items ≡ l.counter; free : l.slots.items ≡ replicate l.counter free_slot }
