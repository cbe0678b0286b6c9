-- A node at an end of a line: a PAD or a host.
use Rattle.std.specs.Prelude.{ℕ, Bool, true, false, List, [], Option}
use Rattle.link_timers.specs.declared.timers.TimerId.{TimerId}
use Rattle.packet_layer.specs.Layer.{confirmed}
use Rattle.line_end.specs.End.{without_frames}
use Rattle.packet_end.specs.PacketEnd as end
use Rattle.packet_end.specs.PacketEnd.{Octets, PacketEnd, at_rest}
use Rattle.pad_ports.specs.Notes.{ChannelNote}
use Rattle.x25_pad.specs.Pad as pad
use Rattle.x25_pad.specs.Pad.{PadState}
use Rattle.user_nodes.specs.PadWriting as records

pub data NodeState : Type 0 where
  Pad : PadState → NodeState
  Host : PacketEnd → NodeState

-- its end of the line
abbrev pub end_of : NodeState → PacketEnd
end_of (Pad p) = p.line.end
end_of (Host e) = e

abbrev pub with_end : PacketEnd → NodeState → NodeState
with_end e (Pad p) = Pad (pad.with_end e p)
with_end e (Host old) = Host e

abbrev pub is_pad : NodeState → Bool
is_pad (Pad p) = true
is_pad (Host e) = false

-- the frames that wait to go out, and the node when all have gone
abbrev pub frames_of : NodeState → List Octets
frames_of n = (end_of n).line.frames

abbrev pub sent_out : PacketEnd → PacketEnd
sent_out e = record e { line = without_frames e.line }

abbrev pub drained : NodeState → NodeState
drained n = with_end (sent_out (end_of n)) n

-- the notes of a PAD that are not read
abbrev pub pad_notes : NodeState → List ChannelNote
pad_notes (Pad p) = p.line.notes
pad_notes (Host e) = []

-- the node when all notes were read
abbrev pub all_read : PacketEnd → PacketEnd
all_read e = record e { notes = [] }

abbrev pub without_notes : NodeState → NodeState
without_notes (Pad p) = Pad (records.without_notes p)
without_notes (Host e) = Host (all_read e)

abbrev pub node_rests : NodeState → Bool
node_rests n = at_rest (end_of n)

-- the first timer with no tick left, at a PAD also of its terminals
abbrev pub node_due : NodeState → Option TimerId
node_due (Pad p) = pad.due p
node_due (Host e) = end.due e

abbrev pub node_elapsed : (ticks : ℕ) → NodeState → NodeState
node_elapsed ticks (Pad p) = Pad (pad.elapsed ticks p)
node_elapsed ticks (Host e) = Host (end.elapsed e ticks)

-- a host asks whether delivery is confirmed, a PAD never
abbrev pub node_confirmed : NodeState → (channel : ℕ) → Bool
node_confirmed (Pad p) channel = false
node_confirmed (Host e) channel = confirmed e.layer channel
