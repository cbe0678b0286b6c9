-- What a port heard of its client, and what a client reads of a port.
use Rattle.std.proofs.Common.{◌≡◌, ℕ, false, List, [], ◌∷◌, ◌++◌, refl, sym, ap, ◌∙◌, subst, append_assoc, append-nil, take, drop, map}
use Rattle.std.proofs.lemmas.List.{take-append-drop}
use Rattle.service_ports.specs.declared.command.TelnetCommand.{TelnetCommand}
use Rattle.service_ports.specs.declared.input.TelnetReader.{TelnetReader}
use Rattle.service_ports.specs.declared.input.Key.{Key}
use Rattle.service_ports.specs.declared.input.Key.TheVariants.{Octet}
use Rattle.service_ports.specs.declared.input.Heard.{Heard}
use Rattle.service_ports.specs.declared.input.Heard.TheVariants.{Nothing, Typed, Answered}
use Rattle.service_ports.specs.declared.mode.PortMode.{PortMode}
use Rattle.service_ports.specs.declared.mode.PortMode.TheVariants.{Telnet, Raw}
use Rattle.service_ports.specs.Modes.{keys_heard, reads_in, text_seen, with_shown}
use Rattle.service_ports.specs.Ports.{PortState, first_output, with_heard, after_octet, after_octets}
use Rattle.service_ports.specs.Reading.{key_in, answer_in, keys_read, new_reader, reads}
use Rattle.service_ports.specs.Writing.{Output, text_form, command_form, with_text, with_command}
use Rattle.service_ports.specs.ClientForm.{Item, shows, tells, with_items, texts}
use Rattle.service_ports.proofs.ClientReading.{Reads, items-read}

-- where a reader is after octets, and the keys and answers of them
abbrev pub reader_from : PortMode → TelnetReader → List ℕ → TelnetReader
reader_from mode r [] = r
reader_from mode r (octet ∷ octets) = reader_from mode (reads_in mode r octet).reader octets

abbrev pub keys_from : PortMode → TelnetReader → List ℕ → List Key
keys_from mode r [] = []
keys_from mode r (octet ∷ octets) = key_in (reads_in mode r octet).heard ++ keys_from mode (reads_in mode r octet).reader octets

abbrev pub answers_from : PortMode → TelnetReader → List ℕ → List TelnetCommand
answers_from mode r [] = []
answers_from mode r (octet ∷ octets) = answer_in (reads_in mode r octet).heard ++ answers_from mode (reads_in mode r octet).reader octets

pub keys_from-append : (mode : PortMode) (r : TelnetReader) (xs ys : List ℕ) → keys_from mode r (xs ++ ys) ≡ keys_from mode r xs ++ keys_from mode (reader_from mode r xs) ys
keys_from-append mode r [] ys = refl
keys_from-append mode r (x ∷ xs) ys =
    ap (λ keys. key_in (reads_in mode r x).heard ++ keys) (keys_from-append mode (reads_in mode r x).reader xs ys)
    ∙ sym (append_assoc (key_in (reads_in mode r x).heard) (keys_from mode (reads_in mode r x).reader xs) (keys_from mode (reader_from mode (reads_in mode r x).reader xs) ys))

pub reader_from-append : (mode : PortMode) (r : TelnetReader) (xs ys : List ℕ) → reader_from mode r (xs ++ ys) ≡ reader_from mode (reader_from mode r xs) ys
reader_from-append mode r [] ys = refl
reader_from-append mode r (x ∷ xs) ys = reader_from-append mode (reads_in mode r x).reader xs ys

telnet_keys : (r : TelnetReader) (octets : List ℕ) → keys_from Telnet r octets ≡ keys_read r octets
telnet_keys r [] = refl
telnet_keys r (octet ∷ octets) = ap (λ keys. key_in (reads r octet).heard ++ keys) (telnet_keys (reads r octet).reader octets)

raw_keys : (r : TelnetReader) (octets : List ℕ) → keys_from Raw r octets ≡ map Octet octets
raw_keys r [] = refl
raw_keys r (octet ∷ octets) = ap (λ keys. Octet octet ∷ keys) (raw_keys r octets)

pub keys_of_mode : (mode : PortMode) (octets : List ℕ) → keys_from mode new_reader octets ≡ keys_heard mode octets
keys_of_mode Telnet octets = telnet_keys new_reader octets
keys_of_mode Raw octets = raw_keys new_reader octets

no_answers : (r : TelnetReader) (octets : List ℕ) → answers_from Raw r octets ≡ []
no_answers r [] = refl
no_answers r (octet ∷ octets) = no_answers r octets

abbrev pub tells_all : List TelnetCommand → List Item
tells_all [] = []
tells_all (command ∷ commands) = tells command ∷ tells_all commands

texts_of_commands : (commands : List TelnetCommand) → texts (tells_all commands) ≡ []
texts_of_commands [] = refl
texts_of_commands (command ∷ commands) = texts_of_commands commands

-- what a port is after octets
pub record HasHeard (port : PortState) (octets : List ℕ) (after : PortState) : Type 0 where
  pub mode : after.mode ≡ port.mode
  pub reader : after.reader ≡ reader_from port.mode port.reader octets
  pub keys : after.keys.items ≡ port.keys.items ++ keys_from port.mode port.reader octets
  pub output : after.output ≡ with_items port.output (tells_all (answers_from port.mode port.reader octets))

-- one octet, and then others
hears_one : (port : PortState) (heard : Heard) (octets : List ℕ) (after : PortState) → HasHeard (with_heard port heard) octets after
    → (after.mode ≡ port.mode)
    × (after.reader ≡ reader_from port.mode port.reader octets)
    × (after.keys.items ≡ port.keys.items ++ (key_in heard ++ keys_from port.mode port.reader octets))
    × (after.output ≡ with_items port.output (tells_all (answer_in heard ++ answers_from port.mode port.reader octets)))
hears_one port Nothing octets after has = (has.mode, has.reader, has.keys, has.output)
hears_one port (Typed key) octets after has =
    (has.mode, has.reader, has.keys ∙ append_assoc port.keys.items (key ∷ []) (keys_from port.mode port.reader octets), has.output)
hears_one port (Answered command) octets after has = (has.mode, has.reader, has.keys, has.output)

pub has_heard : (port : PortState) (octets : List ℕ) → HasHeard port octets (after_octets port octets)
unfolding after_octet
has_heard port [] = record { mode = refl; reader = refl; keys = sym (append-nil port.keys.items); output = refl }
has_heard port (octet ∷ octets) =
    let now : PortState = record port { reader = (reads_in port.mode port.reader octet).reader } in
    let on = hears_one now (reads_in port.mode port.reader octet).heard octets (after_octets (after_octet port octet) octets) (has_heard (after_octet port octet) octets) in
    record { mode = on.0; reader = on.1; keys = on.2; output = on.3 }

-- ---- what a client reads

-- octets that were written before those that wait
abbrev behind : (out : List ℕ) → Output → Output
behind out o = record o { octets = out ++ o.octets }

behind_text : (out : List ℕ) (o : Output) (text : List ℕ) → with_text (behind out o) text ≡ behind out (with_text o text)
behind_text out o text = ap (λ octets. record (with_text o text) { octets = octets }) (append_assoc out o.octets (text_form o.after_return text))

behind_command : (out : List ℕ) (o : Output) (command : TelnetCommand) → with_command (behind out o) command ≡ behind out (with_command o command)
behind_command out o command = ap (λ octets. record (with_command o command) { octets = octets }) (append_assoc out o.octets (command_form o.after_return command))

behind_items : (out : List ℕ) (o : Output) (items : List Item) → with_items (behind out o) items ≡ behind out (with_items o items)
behind_items out o [] = refl
behind_items out o (shows text ∷ items) = ap (λ w. with_items w items) (behind_text out o text) ∙ behind_items out (with_text o text) items
behind_items out o (tells command ∷ items) = ap (λ w. with_items w items) (behind_command out o command) ∙ behind_items out (with_command o command) items

-- what is read of a port: of what was written, and of what waits
abbrev pub IsRead : PortMode → (out : List ℕ) → Output → (text : List ℕ) → Type 0
IsRead Telnet out o text = Reads false (out ++ o.octets) text o.after_return
IsRead Raw out o text = out ++ o.octets ≡ text

read_on : (out : List ℕ) (o : Output) (seen : List ℕ) (items : List Item) → IsRead Telnet out o seen → IsRead Telnet out (with_items o items) (seen ++ texts items)
read_on out o seen items so_far =
    subst (λ w. Reads false w.octets (seen ++ texts items) w.after_return) (behind_items out o items) (items-read (behind out o) seen items so_far)

pub read_nothing : (mode : PortMode) → IsRead mode [] (first_output mode) []
read_nothing Telnet = record { text_is = refl; place_is = refl }
read_nothing Raw = refl

pub read_text : (mode : PortMode) (out : List ℕ) (o : Output) (seen text : List ℕ) → IsRead mode out o seen → IsRead mode out (with_shown mode o text) (seen ++ text)
read_text Telnet out o seen text so_far =
    subst (λ t. IsRead Telnet out (with_text o text) (seen ++ t)) (append-nil text) (read_on out o seen (shows text ∷ []) so_far)
read_text Raw out o seen text so_far = sym (append_assoc out o.octets text) ∙ ap (λ t. t ++ text) so_far

pub read_answers : (mode : PortMode) (out : List ℕ) (o : Output) (seen : List ℕ) (r : TelnetReader) (octets : List ℕ) → IsRead mode out o seen
    → IsRead mode out (with_items o (tells_all (answers_from mode r octets))) seen
read_answers Telnet out o seen r octets so_far =
    let answers = tells_all (answers_from Telnet r octets) in
    subst (λ t. IsRead Telnet out (with_items o answers) t)
    (ap (λ t. seen ++ t) (texts_of_commands (answers_from Telnet r octets)) ∙ append-nil seen) (read_on out o seen answers so_far)
read_answers Raw out o seen r octets so_far =
    subst (λ commands. IsRead Raw out (with_items o (tells_all commands)) seen) (sym (no_answers r octets)) so_far

pub read_command : (out : List ℕ) (o : Output) (seen : List ℕ) (command : TelnetCommand) → IsRead Telnet out o seen → IsRead Telnet out (with_command o command) seen
read_command out o seen command so_far =
    subst (λ t. IsRead Telnet out (with_command o command) t) (append-nil seen) (read_on out o seen (tells command ∷ []) so_far)

-- a part of what waits is written
pub read_written : (mode : PortMode) (out : List ℕ) (count : ℕ) (o : Output) (text : List ℕ) → IsRead mode out o text
    → IsRead mode (out ++ take count o.octets) (record o { octets = drop count o.octets }) text
read_written Telnet out count o text read =
    subst (λ octets. Reads false octets text o.after_return)
    (ap (λ octets. out ++ octets) (sym (take-append-drop count o.octets)) ∙ sym (append_assoc out (take count o.octets) (drop count o.octets))) read
read_written Raw out count o text read =
    append_assoc out (take count o.octets) (drop count o.octets) ∙ ap (λ octets. out ++ octets) (take-append-drop count o.octets) ∙ read

pub text_of_mode : (mode : PortMode) (out : List ℕ) (o : Output) (text : List ℕ) → IsRead mode out o text → text_seen mode (out ++ o.octets) ≡ text
text_of_mode Telnet out o text read = read.text_is
text_of_mode Raw out o text read = read
