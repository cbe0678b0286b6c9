-- What is noted of what happens at a terminal is of its own call.
use Rattle.std.specs.Prelude.{◌≡◌, ℕ, ◌⊎◌, [], Option, Some}
use Rattle.packet_laws.specs.Readable.{Every}
use Rattle.pad_ports.specs.PadLine.{about}
use Rattle.pad_ports.specs.Notes.{ChannelNote, Told, Placed, Accepted, Cleared, WasReset, Edited, Sent}
use Rattle.pad_ports.specs.Notes.{Interrupted, Took}
use Rattle.pad_ports.specs.Ports.{AtLine, after_key, after_break, after_idle, after_print, after_leaving}
use Rattle.pad_ports.specs.Ports.{after_arrival}

-- the channel of a note
abbrev pub channel_of : ChannelNote → ℕ
channel_of (Told note) = about note
channel_of (Placed channel address) = channel
channel_of (Accepted channel) = channel
channel_of (Cleared channel) = channel
channel_of (WasReset channel) = channel
channel_of (Edited channel step) = channel
channel_of (Sent channel d) = channel
channel_of (Interrupted channel octets) = channel
channel_of (Took channel taken) = channel

-- it is that of the call that a terminal had before, or of the one that it has then
abbrev pub IsOfCall : (before after : Option ℕ) → ChannelNote → Type 0
IsOfCall before after note = (before ≡ Some (channel_of note)) ⊎ (after ≡ Some (channel_of note))

abbrev pub NotesOwnCall : (AtLine → AtLine) → Type 0
NotesOwnCall act = (a : AtLine) → a.line.notes ≡ []
    → Every (IsOfCall a.port.call (act a).port.call) (act a).line.notes

-- of keys, breaks, idle times, printing, leaving and arriving
pub record OwnNotesLaw : Type 0 where
  pub keys : (octet : ℕ) → NotesOwnCall (after_key octet)
  pub breaks : NotesOwnCall after_break
  pub idle_times : NotesOwnCall after_idle
  pub prints : NotesOwnCall after_print
  pub leavings : NotesOwnCall after_leaving
  pub arrivals : NotesOwnCall after_arrival
