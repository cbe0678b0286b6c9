-- A record that is of no present call.
use Rattle.std.specs.Prelude.{◌≡◌, ℕ, slice_get, Some}
use Rattle.link_timers.specs.declared.role.Role.{Role}
use Rattle.call_records.specs.Records.{RecordValue}
use Rattle.call_records.specs.Book.{Book, slot_at}

pub record Rests (n : ℕ) (r : RecordValue) (b : Book) : Type 0 where
  pub there : slice_get b.records n ≡ Some r
  pub not_present : (role : Role) (c : ℕ) → (slot_at role c b).present ≡ Some n → ⊥
