-- What a mode makes of octets.
use Rattle.std.specs.Prelude.{ℕ, Bool, true, false, List, ◌++◌, map}
use Rattle.service_ports.specs.declared.mode.PortMode.{PortMode}
use Rattle.service_ports.specs.declared.mode.PortMode.TheVariants.{Telnet, Raw}
use Rattle.service_ports.specs.declared.input.TelnetReader.{TelnetReader}
use Rattle.service_ports.specs.declared.input.Key.{Key}
use Rattle.service_ports.specs.declared.input.Key.TheVariants.{Octet}
use Rattle.service_ports.specs.declared.input.Heard.TheVariants.{Typed}
use Rattle.service_ports.specs.Reading.{Reading, new_reader, reads, keys_read}
use Rattle.service_ports.specs.Writing.{Output, with_text}
use Rattle.service_ports.specs.ClientForm.{in_text, text_read}

abbrev pub is_telnet : PortMode → Bool
is_telnet Telnet = true
is_telnet Raw = false

-- what an octet of a client comes to: raw, it is a key
abbrev pub reads_in : PortMode → TelnetReader → ℕ → Reading
reads_in Telnet r octet = reads r octet
reads_in Raw r octet = record { reader = r; heard = Typed (Octet octet) }

-- the keys that a client's octets are, from when it came
abbrev pub keys_heard : PortMode → List ℕ → List Key
keys_heard Telnet octets = keys_read new_reader octets
keys_heard Raw octets = map Octet octets

-- text that is shown
abbrev pub with_shown : PortMode → Output → List ℕ → Output
with_shown Telnet output text = with_text output text
with_shown Raw output text = record output { octets = output.octets ++ text }

-- the text that a client reads in octets, from when it came
abbrev pub text_seen : PortMode → List ℕ → List ℕ
text_seen Telnet octets = text_read in_text octets
text_seen Raw octets = octets
