-- The PAD's end of its line with its notes, and what a PAD asks of the calls there.
use Rattle.std.specs.Prelude.{ℕ, Bool, true, false, ◌==◌, List, [], ◌∷◌, ◌++◌, map, Option, Some, None}
use Rattle.std.specs.List.{flat_map}
use Rattle.data_transfer.specs.Packets.{CallParts, Datum, Note}
use Rattle.data_transfer.specs.Traffic.{Taken}
use Rattle.data_transfer.specs.Packets.Note.{Incoming, Connected, Closed, WasReset, InterruptConfirmed, Covered}
use Rattle.packet_channel.specs.Channel.{Refusal, Request}
use Rattle.packet_layer.specs.Layer.{room, flow_refusal, request_refusal, channel_given}
use Rattle.packet_layer.specs.Interrupting.{may_interrupt}
use Rattle.packet_end.specs.PacketEnd.{PacketEnd}
use Rattle.packet_end.specs.PacketEnd as end
use Rattle.pad_terminal.specs.declared.answers.CallCondition.{CallCondition}
use Rattle.pad_ports.specs.Notes as notes
use Rattle.pad_ports.specs.Notes.{ChannelNote, all_told, unless_refused}
use Rattle.pad_ports.specs.declared.call.PortNote.{PortNote}
use Rattle.pad_ports.specs.declared.call.PortNote.TheVariants as learnt

-- the PAD's end of the line, and the notes of an event, in order. For each note, in the same order, `noted_at` has the
-- terminal whose call it is of, if one has the call. `terminal` is the one at which something happens, if any
pub record PadLine : Type 0 where
  pub end : PacketEnd
  pub notes : List ChannelNote
  pub noted_at : List (Option ℕ)
  pub terminal : Option ℕ

-- what happens next happens at this terminal, or at none
abbrev pub at_terminal : Option ℕ → PadLine → PadLine
at_terminal terminal l = record l { terminal = terminal }

-- notes of the terminal
abbrev pub noting : List ChannelNote → PadLine → PadLine
noting notes l = record l { notes = l.notes ++ notes; noted_at = l.noted_at ++ map (λ note. l.terminal) notes }

-- nothing is noted yet
abbrev pub silent_line : PacketEnd → PadLine
silent_line e = record { end = e; notes = []; noted_at = []; terminal = None }

-- ---- requests

-- something is asked of a call, which is noted where it is not refused
abbrev pub asked : (channel : ℕ) → Request → ChannelNote → PadLine → PadLine
asked channel r note l =
    noting (unless_refused (request_refusal l.end.layer channel r) note)
    (record l { end = end.asked l.end channel r })

-- a message of one Data packet
abbrev pub datum : (octets : List ℕ) → (qualified : Bool) → Datum
datum octets qualified = record { octets = octets; more = false; qualified = qualified; delivery = false }

abbrev pub sent : (channel : ℕ) → List ℕ → (qualified : Bool) → PadLine → PadLine
sent channel octets qualified l =
    asked channel (Request.Sending (datum octets qualified)) (notes.Sent channel (datum octets qualified)) l

abbrev pub accepted : (channel : ℕ) → PadLine → PadLine
accepted channel l = asked channel Request.Accept (notes.Accepted channel) l

-- with cause 0 and diagnostic 0
abbrev pub cleared : (channel : ℕ) → PadLine → PadLine
cleared channel l = asked channel (Request.Clearing 0 0) (notes.Cleared channel) l

abbrev pub reset : (channel : ℕ) → PadLine → PadLine
reset channel l = asked channel (Request.Resetting 0 0) (notes.WasReset channel) l

-- the user data of an interrupt
abbrev pub interrupt_octet : ℕ
interrupt_octet = 1

abbrev pub interrupted : (channel : ℕ) → PadLine → PadLine
interrupted channel l =
    asked channel (Request.Interrupting (interrupt_octet ∷ [])) (notes.Interrupted channel (interrupt_octet ∷ [])) l

-- the user data of a call begin with the protocol of a PAD (X.29 4.2)
abbrev pub protocol : List ℕ
protocol = 1 ∷ 0 ∷ 0 ∷ 0 ∷ []

abbrev pub call_parts : (address user_data : List ℕ) → CallParts
call_parts address user_data =
    record { called = address; calling = []; facilities = []; user_part = protocol ++ user_data }

abbrev pub placed_note : Option ℕ → (address : List ℕ) → List ChannelNote
placed_note None address = []
placed_note (Some channel) address = notes.Placed channel address ∷ []

-- a call of an address is placed
abbrev pub placed : (address user_data : List ℕ) → PadLine → PadLine
placed address user_data l =
    noting (placed_note (channel_given l.end.layer l.end.layer.phase) address)
    (record l { end = end.called l.end (call_parts address user_data) })

-- what waits first on a call is taken, if anything does
abbrev pub taken : (channel : ℕ) → Option Taken → PadLine → PadLine
taken channel None l = record l { end = end.asked l.end channel Request.Taking }
taken channel (Some x) l =
    noting (notes.Took channel x ∷ []) (record l { end = end.asked l.end channel Request.Taking })

-- ---- what a terminal must know of its call

abbrev pub is_resetting : Option Refusal → Bool
is_resetting (Some Refusal.IsResetting) = true
is_resetting _ = false

-- of the call on a logical channel; without one no packet and no interrupt is taken
abbrev pub condition : (call : Option ℕ) → PadLine → CallCondition
condition None l = record { queue_full = true; reset_pending = false; may_interrupt = false }
condition (Some channel) l = record {
  queue_full = room l.end.layer channel == 0;
  reset_pending = is_resetting (flow_refusal l.end.layer channel);
  may_interrupt = may_interrupt l.end.layer channel;
}

-- ---- what the packet layer tells

-- its notes are read, and are notes of the PAD, each with its terminal
abbrev pub gathered : (terminals : List (Option ℕ)) → PadLine → PadLine
gathered terminals l = record l {
  end = record l.end { notes = [] };
  notes = l.notes ++ all_told l.end.notes;
  noted_at = l.noted_at ++ terminals;
}

-- the last call that comes in among the notes; where none does, the one before
abbrev pub last_incoming : Option ℕ → List Note → Option ℕ
last_incoming before [] = before
last_incoming before (Incoming channel parts ∷ notes) = last_incoming (Some channel) notes
last_incoming before (note ∷ notes) = last_incoming before notes

-- what the terminals learn of a note
abbrev pub learnt_of : Note → List PortNote
learnt_of (Incoming channel parts) = []
learnt_of (Connected channel) = learnt.Connected channel ∷ []
learnt_of (Closed channel cause diagnostic reason) = learnt.Cleared channel cause ∷ []
learnt_of (WasReset channel cause diagnostic reason) = learnt.Reset channel cause ∷ []
learnt_of (InterruptConfirmed channel) = []
learnt_of (Covered channel count) = []

-- the channel of a note
abbrev pub about : Note → ℕ
about (Incoming channel parts) = channel
about (Connected channel) = channel
about (Closed channel cause diagnostic reason) = channel
about (WasReset channel cause diagnostic reason) = channel
about (InterruptConfirmed channel) = channel
about (Covered channel count) = channel

abbrev pub all_learnt : List Note → List PortNote
all_learnt notes = flat_map learnt_of notes
