-- The other end of a connection: how a client of telnet reads (RFC 854), and how it sends what is typed.
use Rattle.std.specs.Prelude.{ℕ, Bool, List, [], ◌∷◌, ◌++◌, ◌==◌, ◌≡◌, ◌<◌, ◌≤◌, ◌&&◌, ◌||◌, nat_lt, true, false, if◌then◌else◌, count_by, All}
use Rattle.service_ports.specs.declared.command.TelnetCommand.{TelnetCommand}
use Rattle.service_ports.specs.declared.command.TelnetCommand.TheVariants.{Will, Wont, Do, Dont}
use Rattle.service_ports.specs.declared.input.Key.{Key}
use Rattle.service_ports.specs.declared.input.Key.TheVariants.{Octet, Break}
use Rattle.service_ports.specs.Writing.{Output, new_output, with_text, with_command}
use Rattle.service_ports.specs.Reading.{new_reader, keys_read, answers_read}

-- ---- what a client reads

-- where a client is in what it reads
pub data ClientPlace : Type 0 where
  in_text : ClientPlace
  after_return : ClientPlace
  after_iac : ClientPlace
  after_request : ClientPlace

-- the text that an octet is: 255 doubled is one, a NUL after a CR is none, and a command is none
abbrev pub text_in : ClientPlace → ℕ → List ℕ
text_in in_text octet = if octet == 255 then [] else octet ∷ []
text_in after_return octet = if octet == 0 || octet == 255 then [] else octet ∷ []
text_in after_iac octet = if octet == 255 then octet ∷ [] else []
text_in after_request octet = []

abbrev pub place_after : ClientPlace → ℕ → ClientPlace
place_after in_text octet = if octet == 255 then after_iac else if octet == 13 then after_return else in_text
place_after after_return octet = if octet == 255 then after_iac else if octet == 13 then after_return else in_text
place_after after_iac octet = if nat_lt 250 octet && nat_lt octet 255 then after_request else in_text
place_after after_request octet = in_text

-- the text that a client reads
abbrev pub text_read : ClientPlace → List ℕ → List ℕ
text_read place [] = []
text_read place (octet ∷ octets) = text_in place octet ++ text_read (place_after place octet) octets

-- what is written to it, in order
pub data Item : Type 0 where
  shows : List ℕ → Item
  tells : TelnetCommand → Item

abbrev pub with_items : Output → List Item → Output
with_items output [] = output
with_items output (shows text ∷ items) = with_items (with_text output text) items
with_items output (tells command ∷ items) = with_items (with_command output command) items

abbrev pub texts : List Item → List ℕ
texts [] = []
texts (shows text ∷ items) = text ++ texts items
texts (tells command ∷ items) = texts items

-- whatever is written, a client reads the text that was shown, and nothing else
abbrev pub ClientReadsText : Type 0
ClientReadsText =
    (capacity : ℕ) (items : List Item) → text_read in_text (with_items (new_output capacity) items).octets ≡ texts items

-- ---- what a client sends

-- what a client does: it types an octet, presses a break, or sends a command that is no key
pub data Act : Type 0 where
  types : (octet : ℕ) → Act
  -- a CR, with a NUL or an LF after it
  types_return : (end : ℕ) → Act
  presses_break : (code : ℕ) → Act
  asks : (request option : ℕ) → Act
  skips : (code : ℕ) → Act

-- its octets
abbrev pub act_form : Act → List ℕ
act_form (types octet) = if octet == 255 then 255 ∷ 255 ∷ [] else octet ∷ []
act_form (types_return end) = 13 ∷ end ∷ []
act_form (presses_break code) = 255 ∷ code ∷ []
act_form (asks request option) = 255 ∷ request ∷ option ∷ []
act_form (skips code) = 255 ∷ code ∷ []

-- a CR has its end, BRK is 243 and IP is 244, a request is 251 to 254, and other commands are 236 to 249
abbrev pub is_act : Act → Bool
is_act (types octet) = if octet == 13 then false else true
is_act (types_return end) = end == 0 || end == 10
is_act (presses_break code) = code == 243 || code == 244
is_act (asks request option) = nat_lt 250 request && nat_lt request 255
is_act (skips code) = nat_lt 235 code && (nat_lt code 243 || (nat_lt 244 code && nat_lt code 250))

abbrev pub acts_form : List Act → List ℕ
acts_form [] = []
acts_form (act ∷ acts) = act_form act ++ acts_form acts

abbrev pub are_acts : List Act → Bool
are_acts [] = true
are_acts (act ∷ acts) = is_act act && are_acts acts

abbrev pub act_keys : Act → List Key
act_keys (types octet) = Octet octet ∷ []
act_keys (types_return end) = Octet 13 ∷ []
act_keys (presses_break code) = Break ∷ []
act_keys _ = []

abbrev pub acts_keys : List Act → List Key
acts_keys [] = []
acts_keys (act ∷ acts) = act_keys act ++ acts_keys acts

-- what a client types is read as it was typed
abbrev pub KeysAreRead : Type 0
KeysAreRead = (acts : List Act) → are_acts acts ≡ true → keys_read new_reader (acts_form acts) ≡ acts_keys acts

-- ---- what a client is answered

-- an answer about an option of the server, and about one of the client
abbrev pub is_about_own : (option : ℕ) → TelnetCommand → Bool
is_about_own option (Will other) = other == option
is_about_own option (Wont other) = other == option
is_about_own option _ = false

abbrev pub is_about_others : (option : ℕ) → TelnetCommand → Bool
is_about_others option (Do other) = other == option
is_about_others option (Dont other) = other == option
is_about_others option _ = false

-- whatever a client sends, no option of either side is answered twice
abbrev pub OptionsAreAnsweredOnce : Type 0
OptionsAreAnsweredOnce = (octets : List ℕ) (option : ℕ) → All (λ octet. octet < 256) octets
    → (count_by (is_about_own option) (answers_read new_reader octets) ≤ 1)
    × (count_by (is_about_others option) (answers_read new_reader octets) ≤ 1)
