-- The first note of a PAD is written and told before it is dropped.
use Rattle.std.proofs.Common.{◌≡◌, ◌∙◌, ℕ, ◌+◌, ◌≤◌, List, [], ◌∷◌, ◌++◌, length, drop, slice_get, Option, Some, None, refl, ap, arith, append_assoc, length-append}
use Rattle.pad_ports.specs.Notes as pad
use Rattle.pad_ports.specs.Notes.{ChannelNote, PadNote, first_terminal, first_noted}
use Rattle.user_nodes.specs.declared.note.CallUser.TheVariants.{Terminal}
use Rattle.user_nodes.specs.declared.note.UserNote.{UserNote}
use Rattle.user_nodes.specs.Notes.{told_by_pad, at_pad, user_notes}
use Rattle.user_nodes.proofs.FirstNote.{one_told}

-- the first note, and then the others
pub pad_first_is : (notes : List ChannelNote) (note : ChannelNote) → Some note ≡ slice_get notes 0 → note ∷ drop 1 notes ≡ notes
pad_first_is [] note is = absurd (cc)
pad_first_is (first ∷ rest) note is = cc

pub none_is : (terminals : List (Option ℕ)) (notes : List ChannelNote) → None ≡ first_noted terminals notes → notes ≡ []
none_is terminals [] is = refl
none_is terminals (first ∷ rest) is = absurd (cc)

some_is : {A : Type 0} {x y : A} → Some x ≡ Some y → x ≡ y
some_is is = cc

-- the first note and its terminal
pub first_is : (terminals : List (Option ℕ)) (notes : List ChannelNote) (note : PadNote) → Some note ≡ first_noted terminals notes
    → (Some note.note ≡ slice_get notes 0) × (note.terminal ≡ first_terminal terminals)
first_is terminals [] note is = absurd (cc)
first_is terminals (first ∷ rest) note is =
    let same : note ≡ record { terminal = first_terminal terminals; note = first } = some_is is in
    (ap (λ (n : PadNote). Some n.note) same, ap (λ (n : PadNote). n.terminal) same)

-- there is one less then
pub one_waits : (notes : List ChannelNote) (note : ChannelNote) → Some note ≡ slice_get notes 0 → length (drop 1 notes) + 1 ≡ length notes
one_waits [] note is = absurd (cc)
one_waits (first ∷ rest) note is = omega arith

-- ---- what its terminal is told

pub one_told_by_pad : (node : ℕ) (terminal : Option ℕ) (note : ChannelNote) → length (told_by_pad node terminal note) ≤ 1
one_told_by_pad node terminal (pad.Told note) = one_told node (Terminal terminal) note
one_told_by_pad node terminal (pad.Placed channel address) = omega arith
one_told_by_pad node terminal (pad.Accepted channel) = omega arith
one_told_by_pad node terminal (pad.Cleared channel) = omega arith
one_told_by_pad node terminal (pad.WasReset channel) = omega arith
one_told_by_pad node terminal (pad.Edited channel step) = omega arith
one_told_by_pad node terminal (pad.Sent channel d) = omega arith
one_told_by_pad node terminal (pad.Interrupted channel octets) = omega arith
one_told_by_pad node terminal (pad.Took channel taken) = omega arith

pub listed_then : (node : ℕ) (terminals : List (Option ℕ)) (notes : List ChannelNote) (note : ChannelNote) (before after : List UserNote) → Some note ≡ slice_get notes 0
    → after ≡ before ++ told_by_pad node (first_terminal terminals) note
    → after ++ user_notes node (at_pad (drop 1 terminals) (drop 1 notes)) ≡ before ++ user_notes node (at_pad terminals notes)
listed_then node terminals notes note before after first is =
    ap (λ (all : List UserNote). all ++ user_notes node (at_pad (drop 1 terminals) (drop 1 notes))) is
    ∙ append_assoc {A = UserNote} before (told_by_pad node (first_terminal terminals) note) (user_notes node (at_pad (drop 1 terminals) (drop 1 notes)))
    ∙ ap (λ (all : List ChannelNote). before ++ user_notes node (at_pad terminals all)) (pad_first_is notes note first)

pub places_then : (node : ℕ) (terminal : Option ℕ) (notes : List ChannelNote) (note : ChannelNote) (before after : List UserNote) → Some note ≡ slice_get notes 0
    → after ≡ before ++ told_by_pad node terminal note → length after + length (drop 1 notes) ≤ length before + length notes
places_then node terminal notes note before after first is =
    let fewer = one_waits notes note first in
    let told = ap (λ (all : List UserNote). length all) is ∙ length-append before (told_by_pad node terminal note) in
    let one = one_told_by_pad node terminal note in
    omega (arith, fewer, told, one)
