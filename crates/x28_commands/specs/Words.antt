-- The parts of a command line (X.28 3.2.1): spaces, letters, digits.
use Rattle.std.specs.Prelude.{ℕ, Bool, not, ◌&&◌, ◌==◌, nat_le, if◌then◌else◌, List, [], ◌∷◌, drop, slice_index}
use Rattle.std.specs.List.{list_all, position_or_len}

abbrev pub is_space : ℕ → Bool
is_space o = o == 0x20

abbrev pub is_graphic : ℕ → Bool
is_graphic o = nat_le 0x20 o && nat_le o 0x7E

-- nothing but spaces
abbrev pub is_blank : List ℕ → Bool
is_blank text = list_all is_space text

-- how many octets at the front of a text pass a test
abbrev pub run : (ℕ → Bool) → List ℕ → ℕ
run passes text = position_or_len (λ o. not (passes o)) text

-- a text without its leading spaces
abbrev pub after_spaces : List ℕ → List ℕ
after_spaces text = drop (run is_space text) text

abbrev pub before_trimmed : ℕ → List ℕ → List ℕ
before_trimmed o [] = if is_space o then [] else o ∷ []
before_trimmed o (x ∷ xs) = o ∷ x ∷ xs

-- a text without its trailing spaces
unfoldable pub trimmed : List ℕ → List ℕ
trimmed [] = []
trimmed (o ∷ os) = before_trimmed o (trimmed os)

-- the octet at the front, or 0
abbrev pub first : List ℕ → ℕ
first text = slice_index text 0
