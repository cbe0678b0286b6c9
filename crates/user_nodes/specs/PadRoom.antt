-- The room that the notes of a PAD need in the book of its line.
use Rattle.std.specs.Prelude.{ℕ, ◌+◌, ◌-◌, ◌≤◌, IsTrue, List, [], ◌∷◌}
use Rattle.link_timers.specs.declared.role.Role.{Role}
use Rattle.call_records.specs.Room.{BookState, opens, room_after}
use Rattle.call_records.specs.Writes.{written_by}
use Rattle.pad_ports.specs.Notes.{ChannelNote, Told, Placed, Accepted, Cleared, WasReset, Edited, Sent}
use Rattle.pad_ports.specs.Notes.{Interrupted, Took}
use Rattle.user_nodes.specs.PadWriting.{write_of}

-- there is room for a note, where there is room for so many writes and for so many pairs
abbrev pub HasRoom : ChannelNote → (room pairs : ℕ) → Type 0
HasRoom (Told note) room pairs = IsTrue (opens note) → 1 ≤ room
HasRoom (Accepted channel) room pairs = 1 ≤ room + pairs
HasRoom (Cleared channel) room pairs = Unit {0}
HasRoom (Placed channel address) room pairs = 1 ≤ room
HasRoom (WasReset channel) room pairs = 1 ≤ room
HasRoom (Edited channel step) room pairs = 1 ≤ room
HasRoom (Sent channel d) room pairs = 1 ≤ room
HasRoom (Interrupted channel octets) room pairs = 1 ≤ room
HasRoom (Took channel taken) room pairs = 1 ≤ room

-- and what is left of it then: none where a record or an epoch was opened
abbrev pub room_left : ChannelNote → (room : ℕ) → ℕ
room_left (Told note) room = room_after note room
room_left (Accepted channel) room = room - 1
room_left (Cleared channel) room = room
room_left (Placed channel address) room = 0
room_left (WasReset channel) room = 0
room_left (Edited channel step) room = room - 1
room_left (Sent channel d) room = room - 1
room_left (Interrupted channel octets) room = room - 1
room_left (Took channel taken) room = room - 1

abbrev pub pairs_left : ChannelNote → (pairs : ℕ) → ℕ
pairs_left (Accepted channel) pairs = pairs - 1
pairs_left note pairs = pairs

-- each note has room behind those before it
abbrev pub HaveRoom : List ChannelNote → (room pairs : ℕ) → Type 0
HaveRoom [] room pairs = Unit {0}
HaveRoom (note ∷ notes) room pairs =
    HasRoom note room pairs × HaveRoom notes (room_left note room) (pairs_left note pairs)

-- the book with its room, when a note was written
abbrev pub written : Role → ChannelNote → BookState → BookState
written role note s = record {
  book = written_by role (write_of note) s.book;
  room = room_left note s.room;
  pairs = pairs_left note s.pairs;
}
