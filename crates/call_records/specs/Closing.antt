-- All present calls of an end are over for it.
use Rattle.std.specs.Prelude.{ℕ, zero, suc, Option, Some, None, length}
use Rattle.link_timers.specs.declared.role.Role.{Role}
use Rattle.call_records.specs.Book.{Book, side_of, slot_at, closes}

-- the call on a channel, if there is one
abbrev pub closes_if : Option ℕ → Role → (channel : ℕ) → Book → Book
closes_if None role channel b = b
closes_if (Some number) role channel b = closes role channel b

abbrev pub closes_present : Role → (channel : ℕ) → Book → Book
closes_present role channel b = closes_if (slot_at role channel b).present role channel b

-- those of so many channels from this one on, in rising order
abbrev pub closed_from : (count channel : ℕ) → Role → Book → Book
closed_from zero channel role b = b
closed_from (suc count) channel role b = closed_from count (suc channel) role (closes_present role channel b)

-- those of all channels
abbrev pub all_closed : Role → Book → Book
all_closed role b = closed_from (length (side_of role b).slots) 1 role b
