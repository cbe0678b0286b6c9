-- What a terminal shows is of its own call, or its own: nothing of another terminal's.
use Rattle.std.specs.Prelude.{◌≡◌, ℕ, List, ◌++◌, slice_get, Some, false}
use Rattle.data_transfer.specs.Packets.{Note}
use Rattle.data_transfer.specs.Traffic.{Taken}
use Rattle.packet_layer.specs.Layer.{front_on}
use Rattle.pad_ports.specs.PadLine.{learnt_of, about}
use Rattle.pad_ports.specs.Ports.{PortState, AtLine, has_channel, text_taken}
use Rattle.x25_pad.specs.Pad.{PadState, at_port, print_taken, print_text, all_heard}

-- printing at a terminal takes what waits first on the channel of its own call
abbrev pub OwnPacketLaw : Type 0
OwnPacketLaw = (p : PadState) (number : ℕ) (q : PortState) (x : Taken) → slice_get p.ports number ≡ Some q
    → print_taken number p ≡ Some x
    → (call : ℕ) × (q.call ≡ Some call) × (front_on p.line.end.layer call ≡ Some x)

-- it gives the terminal's own text that waits, and then what that packet shows
abbrev pub OwnTextLaw : Type 0
OwnTextLaw = (p : PadState) (number : ℕ) (q : PortState) → slice_get p.ports number ≡ Some q
    → print_text number p ≡ q.terminal.output.text ++ text_taken (print_taken number p) q.terminal

-- what happens at a terminal leaves the others as they are
abbrev pub OthersStayLaw : Type 0
OthersStayLaw = (p : PadState) (number other : ℕ) (act : AtLine → AtLine) → (other ≡ number → ⊥)
    → slice_get (at_port number act p).ports other ≡ slice_get p.ports other

-- of what the packet layer tells a terminal learns nothing but what is about the channel of its own call
abbrev pub LearnsOwnLaw : Type 0
LearnsOwnLaw = (ports : List PortState) (number : ℕ) (q : PortState) (note : Note) → slice_get ports number ≡ Some q
    → has_channel q.call (about note) ≡ false → slice_get (all_heard (learnt_of note) ports) number ≡ Some q
