-- The lines of a run whose frames are traced.
use Rattle.std.specs.Prelude.{ℕ, ◌+◌, ◌/◌, ◌%◌, ◌==◌, ◌&&◌, not, Bool, true, false, ◌≡◌, List, [], ◌∷◌, ◌++◌, length}
use Rattle.std.specs.Prelude.{Option, Some, None, slice_get, unwrap_or, nat_lt, if◌then◌else◌}
use Rattle.std.specs.Prelude.{◌≤◌, ◌<◌, All}
use Rattle.std.specs.Char.{is_ascii_digit}
use Rattle.std.specs.List.{flat_map, position}
use Rattle.frame_lines.specs.declared.line.Direction.{Direction}
use Rattle.frame_lines.specs.declared.line.Direction.TheVariants.{FromDte, FromDce}

-- ---- frames

-- the hexadecimal digit of a number below 16: 48 is `0`, 65 is `A`
abbrev pub hex_digit : ℕ → ℕ
hex_digit n = if nat_lt n 10 then 48 + n else 55 + n

-- an octet in hexadecimal, behind a space (32)
abbrev pub spaced : ℕ → List ℕ
spaced octet = 32 ∷ hex_digit (octet / 16) ∷ hex_digit (octet % 16) ∷ []

-- what a frame may have: at most 1,030 octets
pub record AreOctets (octets : List ℕ) : Type 0 where
  pub each : All (λ octet. octet < 256) octets
  pub fit : length octets ≤ 1030

-- the sign of a direction: `>` from the DTE, `<` from the DCE
abbrev pub sign_of : Direction → ℕ
sign_of FromDte = 62
sign_of FromDce = 60

-- the line of a frame: the digits of its line's number, the sign and the octets
abbrev pub frame_line : (digits : List ℕ) → Direction → (octets : List ℕ) → List ℕ
frame_line digits direction octets = digits ++ 32 ∷ sign_of direction ∷ flat_map spaced octets

-- the number of a line: 1 to 5 digits
pub record IsNumber (digits : List ℕ) : Type 0 where
  pub each : All (λ digit. is_ascii_digit digit ≡ true) digits
  pub some : 0 < length digits
  pub fit : length digits ≤ 5

-- a line is that of a frame
pub record IsFrameLine (line : List ℕ) : Type 0 where
  pub digits : List ℕ
  pub number : IsNumber digits
  pub direction : Direction
  pub octets : List ℕ
  pub are : AreOctets octets
  pub spelled : line ≡ frame_line digits direction octets

-- ---- lines that begin as one

-- where the digits end with which a line begins
abbrev pub number_end : List ℕ → ℕ
number_end line = unwrap_or (position (λ octet. not (is_ascii_digit octet)) line) (length line)

abbrev pub is_space : Option ℕ → Bool
is_space (Some octet) = octet == 32
is_space None = false

-- it begins with a number and a space
abbrev pub is_traced : List ℕ → Bool
is_traced line = nat_lt 0 (number_end line) && is_space (slice_get line (number_end line))
