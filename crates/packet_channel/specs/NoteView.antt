-- Notes, as the code has them.
use Rattle.std.specs.Prelude.{List, map, Option, Some, None}
use Rattle.data_transfer.specs.Packets as spec
use Rattle.data_transfer.specs.Octets.{parts_of}
use Rattle.packet_channel.specs.declared.note.Reason.{Reason}
use Rattle.packet_channel.specs.declared.note.Reason.TheVariants as reason
use Rattle.packet_channel.specs.declared.note.LayerNote.{LayerNote}
use Rattle.packet_channel.specs.declared.note.LayerNote.TheVariants as note

abbrev pub reason_of : Reason → spec.Reason
reason_of reason.FarEnd = spec.Reason.FarEnd
reason_of reason.LocalFault = spec.Reason.LocalFault
reason_of reason.LinkLost = spec.Reason.LinkLost
reason_of reason.FarRestart = spec.Reason.FarRestart
reason_of reason.Cancelled = spec.Reason.Cancelled

abbrev pub note_of : LayerNote → spec.Note
note_of (note.Incoming channel call) = spec.Note.Incoming channel (parts_of call)
note_of (note.Connected channel) = spec.Note.Connected channel
note_of (note.Closed channel cause diagnostic why) = spec.Note.Closed channel cause diagnostic (reason_of why)
note_of (note.Reset channel cause diagnostic why) = spec.Note.WasReset channel cause diagnostic (reason_of why)
note_of (note.InterruptConfirmed channel) = spec.Note.InterruptConfirmed channel
note_of (note.Covered channel count) = spec.Note.Covered channel count

abbrev pub notes_of : List LayerNote → List spec.Note
notes_of notes = map note_of notes

abbrev pub maybe_note : Option LayerNote → Option spec.Note
maybe_note None = None
maybe_note (Some n) = Some (note_of n)
