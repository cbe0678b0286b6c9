-- The texts of a script: which octets each spells.
use Rattle.std.specs.Prelude.{◌≡◌, ◌≢◌, ◌==◌, ℕ, ◌+◌, ◌*◌, List, [], ◌∷◌, Option, Some, None, option_map}
use Rattle.std.specs.Prelude.{if◌then◌else◌}
use Rattle.net_files.specs.Digits.{hex_value}

-- A text, the octet that its front spells, and the text behind: `\\` spells a backslash (92), `\XX` the octet of two
-- hexadecimal digits, the high one first, and any other octet itself.
pub data OctetForm : List ℕ → ℕ → List ℕ → Type 0 where
  backslash : {rest : List ℕ} → OctetForm (92 ∷ 92 ∷ rest) 92 rest
  escape : {high low : ℕ} (sixteens ones : ℕ) {rest : List ℕ}
      → hex_value high ≡ Some sixteens → hex_value low ≡ Some ones
      → OctetForm (92 ∷ high ∷ low ∷ rest) (sixteens * 16 + ones) rest
  plain : {octet : ℕ} {rest : List ℕ} → octet ≢ 92 → OctetForm (octet ∷ rest) octet rest

-- a text and the octets that it spells, one after the other
pub data TextForm : List ℕ → List ℕ → Type 0 where
  empty : TextForm [] []
  more : {text rest octets : List ℕ} {octet : ℕ} → OctetForm text octet rest → TextForm rest octets
      → TextForm text (octet ∷ octets)

-- ---- the same, read

-- the octet of two digits, the high one read
abbrev pub with_digit : Option ℕ → List ℕ → Option (ℕ × List ℕ)
with_digit None text = None
with_digit (Some sixteens) [] = None
with_digit (Some sixteens) (low ∷ rest) = option_map (λ ones. (sixteens * 16 + ones, rest)) (hex_value low)

-- behind a backslash
abbrev pub escaped : List ℕ → Option (ℕ × List ℕ)
escaped [] = None
escaped (high ∷ rest) = if high == 92 then Some (92, rest) else with_digit (hex_value high) rest

-- the octet that the front of a text spells, and the text behind
abbrev pub octet_at : List ℕ → Option (ℕ × List ℕ)
octet_at [] = None
octet_at (first ∷ rest) = if first == 92 then escaped rest else Some (first, rest)

-- where in a text its next octet stands: at the front of a form, behind a backslash, or behind the first digit of an
-- escape
pub data EscapeState : Type 0 where
  Front : EscapeState
  Backslash : EscapeState
  Digit : Option ℕ → EscapeState

-- an octet in front of others, where there are both
abbrev pub in_front : Option ℕ → Option (List ℕ) → Option (List ℕ)
in_front None octets = None
in_front (Some octet) octets = option_map (λ others. octet ∷ others) octets

abbrev pub octet_of : (high low : Option ℕ) → Option ℕ
octet_of None low = None
octet_of (Some sixteens) low = option_map (λ ones. sixteens * 16 + ones) low

-- the octets that a text spells from such a place on, if it does
unfoldable pub octets_from : EscapeState → List ℕ → Option (List ℕ)
octets_from Front [] = Some []
octets_from Front (octet ∷ rest) =
    if octet == 92 then octets_from Backslash rest else in_front (Some octet) (octets_from Front rest)
octets_from Backslash [] = None
octets_from Backslash (octet ∷ rest) =
    if octet == 92 then in_front (Some 92) (octets_from Front rest) else octets_from (Digit (hex_value octet)) rest
octets_from (Digit high) [] = None
octets_from (Digit high) (octet ∷ rest) = in_front (octet_of high (hex_value octet)) (octets_from Front rest)

abbrev pub octets_of : List ℕ → Option (List ℕ)
octets_of text = octets_from Front text
