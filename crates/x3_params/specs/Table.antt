-- The parameters of a PAD (X.3 section 3): their values, and the two profiles.
use Rattle.std.specs.Prelude.{ℕ, Bool, List, [], ◌∷◌, ◌&&◌, nat_le, ◌==◌, slice_set, map, Option, Some, None}
use Rattle.std.specs.Prelude.{if◌then◌else◌}
use Rattle.std.specs.List.{list_any}
use Rattle.x3_params.specs.declared.profile.Profile.{Profile}
use Rattle.x3_params.specs.declared.profile.Profile.TheVariants.{Simple, Transparent}

-- the numbers from `first` to `last`, both among them
pub record Span : Type 0 where
  pub first : ℕ
  pub last : ℕ

abbrev pub to : ℕ → ℕ → Span
to a b = record { first = a; last = b }

-- a parameter's number, its values, and its value in each of the two profiles
pub record Row : Type 0 where
  pub number : ℕ
  pub values : List Span
  pub simple : ℕ
  pub transparent : ℕ

abbrev pub row : ℕ → List Span → ℕ → ℕ → Row
row n values simple transparent = record { number = n; values = values; simple = simple; transparent = transparent }

abbrev pub table : List Row
table =
    -- PAD recall by a character: 0 none, 1 DLE, else the character
    row 1 (to 0 1 ∷ to 32 126 ∷ []) 1 0
    -- echo
    ∷ row 2 (to 0 1 ∷ []) 1 0
    -- data forwarding characters, a sum
    ∷ row 3 (to 0 127 ∷ []) 126 0
    -- idle timer, in twentieths of a second
    ∷ row 4 (to 0 255 ∷ []) 0 20
    -- ancillary device control
    ∷ row 5 (to 0 1 ∷ []) 1 0
    -- service signals: 0 none, 1 without and 5 with the prompt
    ∷ row 6 (to 0 1 ∷ to 5 5 ∷ []) 1 0
    -- operation on a break, a sum
    ∷ row 7 (to 0 31 ∷ []) 2 2
    -- discard output
    ∷ row 8 (to 0 1 ∷ []) 0 0
    -- padding after carriage return
    ∷ row 9 (to 0 7 ∷ []) 0 0
    -- line folding: 0 none, else the columns of a line
    ∷ row 10 (to 0 255 ∷ []) 0 0
    -- speed, which no profile gives
    ∷ row 11 (to 0 255 ∷ []) 0 0
    -- flow control of the PAD by the terminal
    ∷ row 12 (to 0 1 ∷ []) 1 0
    -- line feed insertion after carriage return, a sum
    ∷ row 13 (to 0 7 ∷ []) 0 0
    -- padding after line feed
    ∷ row 14 (to 0 7 ∷ []) 0 0
    -- editing
    ∷ row 15 (to 0 1 ∷ []) 0 0
    -- character delete
    ∷ row 16 (to 0 127 ∷ []) 127 127
    -- line delete
    ∷ row 17 (to 0 127 ∷ []) 24 24
    -- line display
    ∷ row 18 (to 0 127 ∷ []) 18 18
    ∷ []

-- a number names a parameter
abbrev pub is_number : ℕ → Bool
is_number n = list_any (λ r. r.number == n) table

-- a span has the number
abbrev pub has : ℕ → Span → Bool
has v s = nat_le s.first v && nat_le v s.last

-- the parameter may have the value
unfoldable pub allows : ℕ → ℕ → Bool
allows n v = list_any (λ r. (r.number == n) && list_any (has v) r.values) table

-- the values of a profile at a terminal of this speed
abbrev pub profile_values : Profile → ℕ → List ℕ
profile_values Simple speed = slice_set (map (λ r. r.simple) table) 10 speed
profile_values Transparent speed = slice_set (map (λ r. r.transparent) table) 10 speed

-- the profile with this number
abbrev pub profile_numbered : ℕ → Option Profile
profile_numbered n = if n == 90 then Some Simple else if n == 91 then Some Transparent else None
