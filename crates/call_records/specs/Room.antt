-- The book with its room: for how many writes memory was reserved, where a packet counts with all of its places, and
-- for how many pairs.
use Rattle.std.specs.Prelude.{ℕ, ◌+◌, Bool, true, false, List, [], ◌∷◌}
use Rattle.data_transfer.specs.Packets.{Note}
use Rattle.data_transfer.specs.Packets.Note.{Incoming, Connected, Closed, WasReset, InterruptConfirmed, Covered}
use Rattle.data_transfer.specs.Traffic.{Taken}
use Rattle.data_transfer.specs.Traffic.Taken.{TakenInterrupt, TakenPacket}
use Rattle.epochs.specs.Packets.{places_of}
use Rattle.call_records.specs.Book.{Book}

pub record BookState : Type 0 where
  pub book : Book
  pub room : ℕ
  pub pairs : ℕ

-- the room that a packet or an interrupt needs that was taken
abbrev pub taken_room : Taken → ℕ
taken_room (TakenInterrupt octets) = 1
taken_room (TakenPacket d) = places_of d.octets

-- a note that opens something, a call or an epoch, for which no memory was reserved yet
abbrev pub opens : Note → Bool
opens (Incoming channel parts) = true
opens (Connected channel) = false
opens (Closed channel cause diagnostic reason) = false
opens (WasReset channel cause diagnostic reason) = true
opens (InterruptConfirmed channel) = false
opens (Covered channel count) = false

-- the room that is left when a note was written
abbrev pub room_after : Note → ℕ → ℕ
room_after (Incoming channel parts) room = 0
room_after (Connected channel) room = room
room_after (Closed channel cause diagnostic reason) room = room
room_after (WasReset channel cause diagnostic reason) room = 0
room_after (InterruptConfirmed channel) room = room
room_after (Covered channel count) room = room

-- how many of the notes open something
abbrev pub opening_notes : List Note → ℕ
opening_notes [] = 0
opening_notes (Incoming channel parts ∷ notes) = 1 + opening_notes notes
opening_notes (WasReset channel cause diagnostic reason ∷ notes) = 1 + opening_notes notes
opening_notes (Connected channel ∷ notes) = opening_notes notes
opening_notes (Closed channel cause diagnostic reason ∷ notes) = opening_notes notes
opening_notes (InterruptConfirmed channel ∷ notes) = opening_notes notes
opening_notes (Covered channel count ∷ notes) = opening_notes notes
