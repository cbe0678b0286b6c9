-- The first note of a host is written before it is dropped.
use Rattle.std.proofs.Common.{◌≡◌, ◌∙◌, ℕ, ◌+◌, ◌≤◌, List, [], ◌∷◌, ◌++◌, length, drop, slice_get, Some, sym, ap, subst, arith, append_assoc, length-append}
use Rattle.std.specs.Prelude.{IsTrue}
use Rattle.data_transfer.specs.Packets.{Note}
use Rattle.data_transfer.specs.Packets.Note.{Incoming, Connected, Closed, WasReset, InterruptConfirmed, Covered}
use Rattle.call_records.specs.Room.{opens, room_after, opening_notes}
use Rattle.user_nodes.specs.declared.note.UserNote.{UserNote}
use Rattle.user_nodes.specs.declared.note.CallUser.{CallUser}
use Rattle.user_nodes.specs.declared.note.CallUser.TheVariants.{Host}
use Rattle.user_nodes.specs.Notes.{told_by_layer, at_host, user_notes}

-- the first note, and then the others
pub first_is : (notes : List Note) (note : Note) → slice_get notes 0 ≡ Some note → note ∷ drop 1 notes ≡ notes
first_is [] note is = absurd (cc)
first_is (first ∷ rest) note is = cc

-- ---- its room

opens_one : (note : Note) (rest : List Note) (room : ℕ) → opening_notes (note ∷ rest) ≤ room → IsTrue (opens note) → 1 ≤ room
opens_one (Incoming channel parts) rest room fits does = omega (arith, fits)
opens_one (WasReset channel cause diagnostic reason) rest room fits does = omega (arith, fits)
opens_one (Connected channel) rest room fits does = absurd (cc)
opens_one (Closed channel cause diagnostic reason) rest room fits does = absurd (cc)
opens_one (InterruptConfirmed channel) rest room fits does = absurd (cc)
opens_one (Covered channel count) rest room fits does = absurd (cc)

pub may_tell : (notes : List Note) (note : Note) (room : ℕ) → slice_get notes 0 ≡ Some note →
    opening_notes notes ≤ room → IsTrue (opens note) → 1 ≤ room
may_tell notes note room first fits =
    opens_one note (drop 1 notes) room (subst (λ (all : List Note). opening_notes all ≤ room) (sym (first_is notes note first)) fits)

pub record HasRoomThen (note : Note) (rest : List Note) (room : ℕ) : Type 0 where
  pub opening : opening_notes rest ≤ 1
  pub left : opening_notes rest ≤ room_after note room

room_then : (note : Note) (rest : List Note) (room : ℕ) → opening_notes (note ∷ rest) ≤ 1 →
    opening_notes (note ∷ rest) ≤ room → HasRoomThen note rest room
room_then (Incoming channel parts) rest room few fits = record { opening = omega (arith, few); left = omega (arith, few) }
room_then (WasReset channel cause diagnostic reason) rest room few fits = record { opening = omega (arith, few); left = omega (arith, few) }
room_then (Connected channel) rest room few fits = record { opening = few; left = fits }
room_then (Closed channel cause diagnostic reason) rest room few fits = record { opening = few; left = fits }
room_then (InterruptConfirmed channel) rest room few fits = record { opening = few; left = fits }
room_then (Covered channel count) rest room few fits = record { opening = few; left = fits }

pub room_left : (notes : List Note) (note : Note) (room : ℕ) → slice_get notes 0 ≡ Some note →
    opening_notes notes ≤ 1 → opening_notes notes ≤ room → HasRoomThen note (drop 1 notes) room
room_left notes note room first few fits =
    let is = sym (first_is notes note first) in
    room_then note (drop 1 notes) room (subst (λ (all : List Note). opening_notes all ≤ 1) is few)
    (subst (λ (all : List Note). opening_notes all ≤ room) is fits)

-- ---- what its user is told

pub one_told : (node : ℕ) (who : CallUser) (note : Note) → length (told_by_layer node who note) ≤ 1
one_told node who (Incoming channel parts) = omega arith
one_told node who (Connected channel) = omega arith
one_told node who (Closed channel cause diagnostic reason) = omega arith
one_told node who (WasReset channel cause diagnostic reason) = omega arith
one_told node who (InterruptConfirmed channel) = omega arith
one_told node who (Covered channel count) = omega arith

pub listed_then : (node : ℕ) (notes : List Note) (note : Note) (before after : List UserNote) → slice_get notes 0 ≡ Some note →
    after ≡ before ++ told_by_layer node Host note → after ++ user_notes node (at_host (drop 1 notes)) ≡ before ++ user_notes node (at_host notes)
listed_then node notes note before after first is =
    ap (λ (all : List UserNote). all ++ user_notes node (at_host (drop 1 notes))) is
    ∙ append_assoc {A = UserNote} before (told_by_layer node Host note) (user_notes node (at_host (drop 1 notes)))
    ∙ ap (λ (all : List Note). before ++ user_notes node (at_host all)) (first_is notes note first)

pub record HasOneLess (node : ℕ) (notes : List Note) (before after : List UserNote) : Type 0 where
  pub rest : length (drop 1 notes) + 1 ≡ length notes
  pub places : length after + length (drop 1 notes) ≤ length before + length notes

pub one_less : (node : ℕ) (notes : List Note) (note : Note) (before after : List UserNote) → slice_get notes 0 ≡ Some note →
    after ≡ before ++ told_by_layer node Host note → HasOneLess node notes before after
one_less node notes note before after first is =
    let all = ap (λ (all : List Note). length all) (first_is notes note first) in
    let told = ap (λ (all : List UserNote). length all) is ∙ length-append before (told_by_layer node Host note) in
    let one = one_told node Host note in
    record { rest = omega (arith, all); places = omega (arith, all, told, one) }
