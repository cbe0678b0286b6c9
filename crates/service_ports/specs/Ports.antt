-- One client's side of a terminal.
use Rattle.std.specs.Prelude.{ℕ, Bool, true, false, List, [], ◌∷◌, ◌++◌, ◌+◌, ◌==◌, ◌&&◌, nat_lt, nat_le, length}
use Rattle.circular_buffer.specs.Buffer.{Buffer, buffer}
use Rattle.service_ports.specs.declared.command.TelnetCommand.TheVariants.{Will}
use Rattle.service_ports.specs.declared.input.TelnetReader.{TelnetReader}
use Rattle.service_ports.specs.declared.mode.PortMode.{PortMode}
use Rattle.service_ports.specs.declared.mode.PortMode.TheVariants.{Telnet, Raw}
use Rattle.service_ports.specs.declared.input.Key.{Key}
use Rattle.service_ports.specs.declared.input.Key.TheVariants.{Octet, Break}
use Rattle.service_ports.specs.declared.input.Heard.{Heard}
use Rattle.service_ports.specs.declared.input.Heard.TheVariants.{Nothing, Typed, Answered}
use Rattle.service_ports.specs.Modes.{reads_in}
use Rattle.service_ports.specs.Reading.{new_reader}
use Rattle.service_ports.specs.Writing.{Output, new_output, with_command}

-- its mode, where the reader is, the keys that wait to be typed, and what waits to be written
pub record PortState : Type 0 where
  pub mode : PortMode
  pub reader : TelnetReader
  pub keys : Buffer Key
  pub output : Output

abbrev pub with_heard : PortState → Heard → PortState
with_heard port Nothing = port
with_heard port (Typed key) = record port { keys = buffer (port.keys.items ++ key ∷ []) port.keys.capacity }
with_heard port (Answered command) = record port { output = with_command port.output command }

-- a port after one octet of its client
unfoldable pub after_octet : PortState → ℕ → PortState
after_octet port octet =
    let reading = reads_in port.mode port.reader octet in with_heard (record port { reader = reading.reader }) reading.heard

-- whether a port takes another octet: there is room for its key, and for its answer of 4 octets at most
abbrev pub takes_octet : PortState → Bool
takes_octet port =
    nat_lt (length port.keys.items) port.keys.capacity && nat_le (length port.output.octets + 4) port.output.capacity

-- whether a key is of this octet
abbrev pub is_octet : (octet : ℕ) → Key → Bool
is_octet octet (Octet typed) = typed == octet
is_octet octet Break = false

-- a port after octets of its client, in order
abbrev pub after_octets : PortState → List ℕ → PortState
after_octets port [] = port
after_octets port (octet ∷ octets) = after_octets (after_octet port octet) octets

-- whether a key is a break or of this octet
abbrev pub is_break_or : (octet : ℕ) → Key → Bool
is_break_or octet (Octet typed) = typed == octet
is_break_or octet Break = true

-- how many keys may wait to be typed, and how many octets to be written
abbrev pub key_places : ℕ
key_places = 2048

abbrev pub octet_places : ℕ
octet_places = 16384

-- what a new client of telnet is told first: both options are offered, once
abbrev pub first_output : PortMode → Output
first_output Telnet = with_command (with_command (new_output octet_places) (Will 1)) (Will 3)
first_output Raw = new_output octet_places

-- a port of a new client
abbrev pub begun : PortMode → PortState
begun mode = record {
  mode = mode;
  reader = new_reader;
  keys = buffer [] key_places;
  output = first_output mode;
}
