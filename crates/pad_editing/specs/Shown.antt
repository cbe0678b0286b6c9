-- How octets are laid out for a terminal (X.3 3.9, 3.10, 3.13, 3.14), from column to column.
use Rattle.std.specs.Prelude.{ℕ, ◌+◌, ◌-◌, Bool, true, false, not, ◌&&◌, ◌==◌, nat_lt, min, List, [], ◌∷◌, ◌++◌}
use Rattle.std.specs.Prelude.{replicate, if◌then◌else◌}
use Rattle.x3_params.specs.Values.{value}
use Rattle.x3_params.specs.Forwarding.{is_from}
use Rattle.x3_params.specs.Settings.{inserts_line_feed}
use Rattle.x3_params.specs.declared.settings.LineFeedInsertion.{LineFeedInsertion}
use Rattle.x3_params.specs.declared.settings.LineFeedInsertion.TheVariants.{ToTerminal, InEcho}

-- what the terminal gets, and the column that it is then at
pub record Shown : Type 0 where
  pub text : List ℕ
  pub column : ℕ

abbrev pub shows : List ℕ → ℕ → Shown
shows text column = record { text = text; column = column }

-- octets that take a column
abbrev pub is_graphic : ℕ → Bool
is_graphic o = is_from 0x20 0x7E o

-- the highest column that is counted
abbrev pub last_column : ℕ
last_column = 65535

-- with the padding of parameters 9 and 14
abbrev pub carriage_return : List ℕ → List ℕ
carriage_return p = 0x0D ∷ replicate (value p 9) 0

abbrev pub line_feed : List ℕ → List ℕ
line_feed p = 0x0A ∷ replicate (value p 14) 0

-- a graphic character at the end of a line goes to a new one
abbrev pub ends_line : ℕ → List ℕ → ℕ → Bool
ends_line o p column = nat_lt 0 (value p 10) && is_graphic o && (column == value p 10)

-- the octet is shown as it stands, in the next column
abbrev pub is_plain : ℕ → List ℕ → ℕ → Bool
is_plain o p column = is_graphic o && not (ends_line o p column)

abbrev pub folded : ℕ → List ℕ → ℕ → Shown
folded o p column =
    if ends_line o p column
    then shows (carriage_return p ++ line_feed p) 0
    else shows [] column

abbrev pub place : Bool → LineFeedInsertion
place true = InEcho
place false = ToTerminal

-- the octet itself
abbrev pub placed : ℕ → Bool → List ℕ → ℕ → Shown
placed o echo p column =
    if is_graphic o then shows (o ∷ []) (min (column + 1) last_column)
    else if o == 0x0D then shows (carriage_return p ++ (if inserts_line_feed p (place echo) then line_feed p else [])) 0
    else if o == 0x0A then shows (line_feed p) column
    -- backspace
    else if o == 0x08 then shows (o ∷ []) (column - 1)
    else shows (o ∷ []) column

abbrev pub shown_octet : ℕ → Bool → List ℕ → ℕ → Shown
shown_octet o echo p column =
    let fold = folded o p column in
    let rest = placed o echo p fold.column in
    shows (fold.text ++ rest.text) rest.column

-- octet by octet, as echo or as output, with the parameters in force, from a column
unfoldable pub shown : List ℕ → Bool → List ℕ → ℕ → Shown
shown [] echo p column = shows [] column
shown (o ∷ os) echo p column =
    let first = shown_octet o echo p column in
    let rest = shown os echo p first.column in
    shows (first.text ++ rest.text) rest.column
