-- What users are told of their calls: the user of a host, and those at the terminals of a PAD.
use Rattle.std.specs.Prelude.{ℕ, List, [], ◌∷◌, ◌++◌, drop, Option}
use Rattle.data_transfer.specs.Packets.{Note}
use Rattle.data_transfer.specs.Packets.Note.{Incoming, Connected, Closed, WasReset, InterruptConfirmed, Covered}
use Rattle.pad_ports.specs.Notes as pad
use Rattle.pad_ports.specs.Notes.{ChannelNote, PadNote, first_terminal}
use Rattle.call_records.specs.Book.{address_of}
use Rattle.user_nodes.specs.declared.note.CallUser.{CallUser}
use Rattle.user_nodes.specs.declared.note.CallUser.TheVariants as user
use Rattle.user_nodes.specs.declared.note.UserNote.{UserNote}
use Rattle.user_nodes.specs.declared.note.NoteKind.TheVariants as kind

-- the notes of a node, in order: those that its packet layer told a host, or those of a PAD, with the terminals whose
-- calls they are of
pub record NodeNotes : Type 0 where
  pub host : List Note
  pub pad : List PadNote

abbrev pub no_notes : NodeNotes
no_notes = record { host = []; pad = [] }

abbrev pub at_host : List Note → NodeNotes
at_host notes = record { host = notes; pad = [] }

-- the terminals are in the order of the notes
abbrev pub with_terminals : List (Option ℕ) → List ChannelNote → List PadNote
with_terminals terminals [] = []
with_terminals terminals (note ∷ notes) =
    record { terminal = first_terminal terminals; note = note } ∷ with_terminals (drop 1 terminals) notes

abbrev pub at_pad : List (Option ℕ) → List ChannelNote → NodeNotes
at_pad terminals notes = record { host = []; pad = with_terminals terminals notes }

-- a call that comes in, with its addresses and its user data, that is connected, cleared or reset; that an interrupt
-- was confirmed, or packets sent were covered, is not told
abbrev pub told_by_layer : (node : ℕ) → CallUser → Note → List UserNote
told_by_layer node who (Incoming channel parts) = record {
  node = node;
  channel = channel;
  user = who;
  kind = kind.Incoming (address_of parts.calling) parts.called parts.user_part;
} ∷ []
told_by_layer node who (Connected channel) =
    record { node = node; channel = channel; user = who; kind = kind.Connected } ∷ []
told_by_layer node who (Closed channel cause diagnostic reason) =
    record { node = node; channel = channel; user = who; kind = kind.Cleared cause diagnostic } ∷ []
told_by_layer node who (WasReset channel cause diagnostic reason) =
    record { node = node; channel = channel; user = who; kind = kind.Reset cause diagnostic } ∷ []
told_by_layer node who (InterruptConfirmed channel) = []
told_by_layer node who (Covered channel count) = []

-- at a PAD also what it did itself: it placed, accepted, cleared or reset a call; what was typed, sent and taken is not
-- told
abbrev pub told_by_pad : (node : ℕ) → (terminal : Option ℕ) → ChannelNote → List UserNote
told_by_pad node terminal (pad.Told note) = told_by_layer node (user.Terminal terminal) note
told_by_pad node terminal (pad.Placed channel address) =
    record { node = node; channel = channel; user = user.Terminal terminal; kind = kind.Dialled address } ∷ []
told_by_pad node terminal (pad.Accepted channel) =
    record { node = node; channel = channel; user = user.Terminal terminal; kind = kind.Connected } ∷ []
told_by_pad node terminal (pad.Cleared channel) =
    record { node = node; channel = channel; user = user.Terminal terminal; kind = kind.Cleared 0 0 } ∷ []
told_by_pad node terminal (pad.WasReset channel) =
    record { node = node; channel = channel; user = user.Terminal terminal; kind = kind.Reset 0 0 } ∷ []
told_by_pad node terminal (pad.Edited channel step) = []
told_by_pad node terminal (pad.Sent channel d) = []
told_by_pad node terminal (pad.Interrupted channel octets) = []
told_by_pad node terminal (pad.Took channel taken) = []

abbrev pub all_listed : (node : ℕ) → List Note → List PadNote → List UserNote
all_listed node [] [] = []
all_listed node [] (n ∷ notes) = told_by_pad node n.terminal n.note ++ all_listed node [] notes
all_listed node (note ∷ notes) of_pad = told_by_layer node user.Host note ++ all_listed node notes of_pad

abbrev pub user_notes : (node : ℕ) → NodeNotes → List UserNote
user_notes node notes = all_listed node notes.host notes.pad
