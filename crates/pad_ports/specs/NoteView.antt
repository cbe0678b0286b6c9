-- Notes of a PAD, as the code has them.
use Rattle.std.specs.Prelude.{◌≤◌, ◌∷◌, [], map, drop, length, vec_capacity, Option, Some, None}
use Rattle.pad_editing.specs.Edited.Step.{key, idle}
use Rattle.packet_channel.specs.NoteView.{note_of}
use Rattle.pad_ports.specs.Notes as spec
use Rattle.pad_ports.specs.TakenView.{taken_of}
use Rattle.pad_ports.specs.declared.note.ChannelNote.{ChannelNote}
use Rattle.pad_ports.specs.declared.note.ChannelNote.TheVariants as note
use Rattle.pad_ports.specs.declared.note.TheConstants.{MOST_NOTES}
use Rattle.pad_ports.specs.declared.note.PadNotes.TheInside.{Inside}
use Rattle.pad_ports.specs.declared.note.PadNote.{PadNote}

abbrev pub pad_note_of : ChannelNote → spec.ChannelNote
pad_note_of (note.Told n) = spec.Told (note_of n)
pad_note_of (note.Placed channel address) = spec.Placed channel address
pad_note_of (note.Accepted channel) = spec.Accepted channel
pad_note_of (note.Cleared channel) = spec.Cleared channel
pad_note_of (note.Reset channel) = spec.WasReset channel
pad_note_of (note.Edited channel octet params) = spec.Edited channel (key octet params)
pad_note_of (note.Paused channel params) = spec.Edited channel (idle params)
pad_note_of (note.Sent channel user_data) = spec.Sent channel user_data
pad_note_of (note.Interrupted channel octet) = spec.Interrupted channel (octet ∷ [])
pad_note_of (note.Took channel taken) = spec.Took channel (taken_of taken)

abbrev pub named_note_of : PadNote → spec.PadNote
named_note_of n = record { terminal = n.terminal; note = pad_note_of n.note }

abbrev pub maybe_pad_note : Option PadNote → Option spec.PadNote
maybe_pad_note None = None
maybe_pad_note (Some n) = Some (named_note_of n)

abbrev pub noted_in : Inside → spec.Noted
noted_in q = record {
  notes = map (λ n. pad_note_of n.note) (drop q.read q.notes.items);
  terminals = map (λ n. n.terminal) (drop q.read q.notes.items);
}

-- it has its places, and no more was read than there are
pub record IsNoteQueue (q : Inside) : Type 0 where
  pub places : MOST_NOTES ≤ vec_capacity q.notes
  pub read : q.read ≤ length q.notes.items
  pub few : length q.notes.items ≤ MOST_NOTES
