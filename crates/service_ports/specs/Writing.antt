-- How text and commands go to a client of telnet (RFC 854).
use Rattle.std.specs.Prelude.{ℕ, Bool, true, false, List, [], ◌∷◌, ◌++◌, ◌==◌, if◌then◌else◌}
use Rattle.service_ports.specs.declared.command.TelnetCommand.{TelnetCommand}
use Rattle.service_ports.specs.Commands.{command_octets}

-- what waits to be written: the octets, how many there may be, and whether the last one of text was a CR, after which
-- its LF or NUL is still to come
pub record Output : Type 0 where
  pub octets : List ℕ
  pub capacity : ℕ
  pub after_return : Bool

abbrev pub new_output : ℕ → Output
new_output capacity = record { octets = []; capacity = capacity; after_return = false }

-- a CR that no LF follows is CR NUL
abbrev pub return_end : (after_return is_feed : Bool) → List ℕ
return_end true false = 0 ∷ []
return_end _ _ = []

-- an octet of text: 255 is doubled
abbrev pub octet_form : (after_return : Bool) → ℕ → List ℕ
octet_form after_return octet =
    return_end after_return (octet == 10) ++ (if octet == 255 then 255 ∷ 255 ∷ [] else octet ∷ [])

abbrev pub text_form : (after_return : Bool) → List ℕ → List ℕ
text_form after_return [] = []
text_form after_return (octet ∷ text) = octet_form after_return octet ++ text_form (octet == 13) text

-- whether a CR is the last octet of the text so far
abbrev pub ends_in_return : (after_return : Bool) → List ℕ → Bool
ends_in_return after_return [] = after_return
ends_in_return after_return (octet ∷ text) = ends_in_return (octet == 13) text

abbrev pub with_text : Output → List ℕ → Output
with_text output text = record output {
  octets = output.octets ++ text_form output.after_return text;
  after_return = ends_in_return output.after_return text;
}

abbrev pub command_form : (after_return : Bool) → TelnetCommand → List ℕ
command_form after_return command = return_end after_return false ++ command_octets command

abbrev pub with_command : Output → TelnetCommand → Output
with_command output command = record output {
  octets = output.octets ++ command_form output.after_return command;
  after_return = false;
}
