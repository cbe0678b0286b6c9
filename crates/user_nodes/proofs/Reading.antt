-- Notes that are read one by one: what each opens, and what is listed of it.
use Rattle.std.proofs.Common.{◌≡◌, ◌≤◌, ℕ, List, [], ◌∷◌, refl, arith}
use Rattle.std.specs.Prelude.{None, IsTrue, slice_get}
use Rattle.data_transfer.specs.Packets.{Note}
use Rattle.data_transfer.specs.Packets.Note.{Incoming, Connected, Closed, WasReset, InterruptConfirmed, Covered}
use Rattle.call_records.specs.Room.{opens, room_after, opening_notes}

pub none_read : (notes : List Note) → None ≡ slice_get notes 0 → notes ≡ []
none_read [] at = refl
none_read (x ∷ xs) at = absurd (cc)

-- one that opens something has room, and leaves enough for the others
pub has_room : (n : Note) (ns : List Note) (room : ℕ) → opening_notes (n ∷ ns) ≤ room → IsTrue (opens n) → 1 ≤ room
has_room (Incoming channel parts) ns room fits is = omega (arith, fits)
has_room (WasReset channel cause diagnostic reason) ns room fits is = omega (arith, fits)
has_room (Connected channel) ns room fits is = absurd (cc)
has_room (Closed channel cause diagnostic reason) ns room fits is = absurd (cc)
has_room (InterruptConfirmed channel) ns room fits is = absurd (cc)
has_room (Covered channel count) ns room fits is = absurd (cc)

pub room_left : (n : Note) (ns : List Note) (room : ℕ) → opening_notes (n ∷ ns) ≤ 1 → opening_notes (n ∷ ns) ≤ room →
    opening_notes ns ≤ room_after n room
room_left (Incoming channel parts) ns room one fits = omega (arith, one)
room_left (WasReset channel cause diagnostic reason) ns room one fits = omega (arith, one)
room_left (Connected channel) ns room one fits = fits
room_left (Closed channel cause diagnostic reason) ns room one fits = fits
room_left (InterruptConfirmed channel) ns room one fits = fits
room_left (Covered channel count) ns room one fits = fits

pub one_left : (n : Note) (ns : List Note) → opening_notes (n ∷ ns) ≤ 1 → opening_notes ns ≤ 1
one_left (Incoming channel parts) ns one = omega (arith, one)
one_left (WasReset channel cause diagnostic reason) ns one = omega (arith, one)
one_left (Connected channel) ns one = one
one_left (Closed channel cause diagnostic reason) ns one = one
one_left (InterruptConfirmed channel) ns one = one
one_left (Covered channel count) ns one = one
