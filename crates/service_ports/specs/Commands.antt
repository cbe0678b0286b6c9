-- The commands of telnet (RFC 854).
use Rattle.std.specs.Prelude.{ℕ, Bool, List, [], ◌∷◌, ◌==◌, ◌||◌}
use Rattle.service_ports.specs.declared.command.TelnetCommand.{TelnetCommand}
use Rattle.service_ports.specs.declared.command.TelnetCommand.TheVariants.{NoOperation, Will, Wont, Do, Dont}

-- the octets of a command: 255, its code and, if it has one, its option
abbrev pub command_octets : TelnetCommand → List ℕ
command_octets NoOperation = 255 ∷ 241 ∷ []
command_octets (Will option) = 255 ∷ 251 ∷ option ∷ []
command_octets (Wont option) = 255 ∷ 252 ∷ option ∷ []
command_octets (Do option) = 255 ∷ 253 ∷ option ∷ []
command_octets (Dont option) = 255 ∷ 254 ∷ option ∷ []

-- the options that a server of terminals offers: it echoes (RFC 857), and it sends no go-ahead (RFC 858)
abbrev pub is_offered : ℕ → Bool
is_offered option = option == 1 || option == 3
