-- How a server reads what a client of telnet sends (RFC 854): where the reader is after each octet, and what it heard.
use Rattle.std.specs.Prelude.{ℕ, List, [], ◌∷◌, ◌++◌, ◌==◌, ◌||◌, nat_lt, if◌then◌else◌}
use Rattle.service_ports.specs.declared.command.TelnetCommand.{TelnetCommand}
use Rattle.service_ports.specs.declared.command.TelnetCommand.TheVariants.{Wont, Do, Dont}
use Rattle.service_ports.specs.declared.input.TelnetReader.{TelnetReader}
use Rattle.service_ports.specs.declared.input.Place.{Place}
use Rattle.service_ports.specs.declared.input.Place.TheVariants.{Text, AfterReturn, AfterIac, AfterRequest, Within, WithinAfterIac}
use Rattle.service_ports.specs.declared.input.Request.{Request}
use Rattle.service_ports.specs.declared.input.Request.TheVariants as request
use Rattle.service_ports.specs.declared.input.Key.{Key}
use Rattle.service_ports.specs.declared.input.Key.TheVariants.{Octet, Break}
use Rattle.service_ports.specs.declared.input.Heard.{Heard}
use Rattle.service_ports.specs.declared.input.Heard.TheVariants.{Nothing, Typed, Answered}
use Rattle.service_ports.specs.Commands.{is_offered}
use Rattle.service_ports.specs.Options.{no_options, has_option, with_option}

-- a reader after an octet, and what it heard
pub record Reading : Type 0 where
  pub reader : TelnetReader
  pub heard : Heard

abbrev pub new_reader : TelnetReader
new_reader = record { place = Text; own = no_options; others = no_options }

abbrev pub at_place : Place → TelnetReader → Heard → Reading
at_place place r heard = record { reader = record r { place = place }; heard = heard }

-- an octet of text: 255 begins a command, any other is a key, and after a CR one NUL or LF is none
abbrev pub reads_text : TelnetReader → ℕ → Reading
reads_text r octet =
    if octet == 255 then at_place AfterIac r Nothing
    else at_place (if octet == 13 then AfterReturn else Text) r (Typed (Octet octet))

-- the octet after 255: 255 is a key, the codes of BRK and IP are a break, 250 begins a subnegotiation, 251 to 254 name a
-- request, 236 to 249 are skipped, and any lower octet is text
abbrev pub reads_command : TelnetReader → ℕ → Reading
reads_command r octet =
    if octet == 255 then at_place Text r (Typed (Octet 255))
    else if octet == 243 || octet == 244 then at_place Text r (Typed Break)
    else if octet == 250 then at_place Within r Nothing
    else if octet == 251 then at_place (AfterRequest request.Will) r Nothing
    else if octet == 252 then at_place (AfterRequest request.Wont) r Nothing
    else if octet == 253 then at_place (AfterRequest request.Do) r Nothing
    else if octet == 254 then at_place (AfterRequest request.Dont) r Nothing
    else if nat_lt octet 236 then reads_text r octet
    else at_place Text r Nothing

-- an option of the server's own side is refused, once
abbrev pub refuses_own : TelnetReader → ℕ → Reading
refuses_own r option = record {
  reader = record { place = Text; own = with_option r.own option; others = r.others };
  heard = if has_option r.own option then Nothing else Answered (Wont option);
}

-- an option that the client offers is answered, once: no go-ahead is wanted, and nothing else
abbrev pub answers_offer : TelnetReader → ℕ → Reading
answers_offer r option = record {
  reader = record { place = Text; own = r.own; others = with_option r.others option };
  heard = if has_option r.others option then Nothing else Answered (if option == 3 then Do option else Dont option);
}

-- a request: what the server offered itself needs no answer, and is given up once if the client refuses it
abbrev pub reads_request : Request → TelnetReader → ℕ → Reading
reads_request request.Will r option = answers_offer r option
reads_request request.Wont r option = at_place Text r Nothing
reads_request request.Do r option = if is_offered option then at_place Text r Nothing else refuses_own r option
reads_request request.Dont r option = if is_offered option then refuses_own r option else at_place Text r Nothing

abbrev pub reads_at : Place → TelnetReader → ℕ → Reading
reads_at Text r octet = reads_text r octet
reads_at AfterReturn r octet = if octet == 0 || octet == 10 then at_place Text r Nothing else reads_text r octet
reads_at AfterIac r octet = reads_command r octet
reads_at (AfterRequest what) r octet = reads_request what r octet
reads_at Within r octet = at_place (if octet == 255 then WithinAfterIac else Within) r Nothing
reads_at WithinAfterIac r octet = at_place (if octet == 240 then Text else Within) r Nothing

-- what an octet comes to
unfoldable pub reads : TelnetReader → ℕ → Reading
reads r octet = reads_at r.place r octet

abbrev pub key_in : Heard → List Key
key_in (Typed key) = key ∷ []
key_in _ = []

-- the keys that a client's octets are
abbrev pub keys_read : TelnetReader → List ℕ → List Key
keys_read r [] = []
keys_read r (octet ∷ octets) = key_in (reads r octet).heard ++ keys_read (reads r octet).reader octets

abbrev pub answer_in : Heard → List TelnetCommand
answer_in (Answered command) = command ∷ []
answer_in _ = []

-- the answers that they get
abbrev pub answers_read : TelnetReader → List ℕ → List TelnetCommand
answers_read r [] = []
answers_read r (octet ∷ octets) = answer_in (reads r octet).heard ++ answers_read (reads r octet).reader octets
