-- What is written into the book of a line from the notes of a PAD there.
use Rattle.std.specs.Prelude.{ℕ, List, [], ◌∷◌, map, length, drop, Some, None}
use Rattle.data_transfer.specs.Packets.{CallParts}
use Rattle.packet_channel.specs.Channel.Request.{Accept, Resetting, Interrupting}
use Rattle.call_records.specs.Writes.{Write, Write as write}
use Rattle.pad_ports.specs.Notes.{ChannelNote, Told, Placed, Accepted, Cleared, WasReset, Edited, Sent}
use Rattle.pad_ports.specs.Notes.{Interrupted, Took}
use Rattle.x25_pad.specs.Pad.{PadState}

-- a record has the address of a call, and no more of its parts
abbrev pub parts_to : (address : List ℕ) → CallParts
parts_to address = record { called = address; calling = []; facilities = []; user_part = [] }

-- a note is written where it was made: what was refused is not noted
abbrev pub write_of : ChannelNote → Write
write_of (Told note) = write.Told (note ∷ [])
write_of (Placed channel address) = write.Placed (Some channel) (parts_to address)
write_of (Accepted channel) = write.Asked None channel Accept None
write_of (Cleared channel) = write.Cleared None channel
write_of (WasReset channel) = write.Asked None channel (Resetting 0 0) None
write_of (Edited channel step) = write.Edited channel step
write_of (Sent channel d) = write.Said None channel (d ∷ [])
write_of (Interrupted channel octets) = write.Asked None channel (Interrupting octets) None
write_of (Took channel taken) = write.Took channel taken

abbrev pub writes_of : List ChannelNote → List Write
writes_of notes = map write_of notes

-- the PAD when all its notes were read, with their terminals
abbrev pub without_notes : PadState → PadState
without_notes p =
    record p { line = record p.line { notes = []; noted_at = drop (length p.line.notes) p.line.noted_at } }
