-- What a PAD notes.
use Rattle.std.specs.Prelude.{ℕ, List, [], ◌∷◌, ◌++◌, map, drop, slice_get, Option, Some, None}
use Rattle.pad_editing.specs.Edited.{Step}
use Rattle.data_transfer.specs.Packets.{Note, Datum}
use Rattle.data_transfer.specs.Traffic.{Taken}
use Rattle.packet_channel.specs.Channel.{Refusal}

-- what its packet layer told; that a call of an address was placed, that one which came in was accepted, that one was
-- cleared or reset; a step of editing, with the values of the parameters; a packet and an interrupt that were sent;
-- what was taken to be shown; each with its channel
pub data ChannelNote : Type 0 where
  Told : Note → ChannelNote
  Placed : (channel : ℕ) → (address : List ℕ) → ChannelNote
  Accepted : (channel : ℕ) → ChannelNote
  Cleared : (channel : ℕ) → ChannelNote
  WasReset : (channel : ℕ) → ChannelNote
  Edited : (channel : ℕ) → Step → ChannelNote
  Sent : (channel : ℕ) → Datum → ChannelNote
  Interrupted : (channel : ℕ) → List ℕ → ChannelNote
  Took : (channel : ℕ) → Taken → ChannelNote

-- a note with the terminal whose call it is of, if one has the call
pub record PadNote : Type 0 where
  pub terminal : Option ℕ
  pub note : ChannelNote

-- the notes of an event that are not yet read, in order, and for each of them, in the same order, its terminal
pub record Noted : Type 0 where
  pub notes : List ChannelNote
  pub terminals : List (Option ℕ)

abbrev pub nothing_noted : Noted
nothing_noted = record { notes = []; terminals = [] }

-- one more note, of a terminal or of none
abbrev pub noted_of : (terminal : Option ℕ) → ChannelNote → Noted → Noted
noted_of terminal note n = record { notes = n.notes ++ note ∷ []; terminals = n.terminals ++ terminal ∷ [] }

-- the terminal of the first note, if it has one
abbrev pub first_terminal : List (Option ℕ) → Option ℕ
first_terminal [] = None
first_terminal (terminal ∷ terminals) = terminal

abbrev pub with_terminal : (terminal : Option ℕ) → Option ChannelNote → Option PadNote
with_terminal terminal None = None
with_terminal terminal (Some note) = Some (record { terminal = terminal; note = note })

-- the first note, with its terminal
abbrev pub first_noted : List (Option ℕ) → List ChannelNote → Option PadNote
first_noted terminals notes = with_terminal (first_terminal terminals) (slice_get notes 0)

abbrev pub without_first : Noted → Noted
without_first n = record { notes = drop 1 n.notes; terminals = drop 1 n.terminals }

abbrev pub all_told : List Note → List ChannelNote
all_told notes = map Told notes

-- a note of what was asked, where it was not refused
abbrev pub unless_refused : Option Refusal → ChannelNote → List ChannelNote
unless_refused None note = note ∷ []
unless_refused (Some refusal) note = []
