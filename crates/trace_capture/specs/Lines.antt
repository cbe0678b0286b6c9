-- The lines of a text.
use Rattle.std.specs.Prelude.{ℕ, ◌+◌, ◌==◌, List, [], ◌∷◌, take, drop, Option, Some, None}
use Rattle.std.specs.List.{position}

-- what stands before a place, or all
abbrev pub before_place : Option ℕ → List ℕ → List ℕ
before_place (Some place) octets = take place octets
before_place None octets = octets

-- what stands behind a place, if there is one
abbrev pub behind_place : Option ℕ → List ℕ → Option (List ℕ)
behind_place (Some place) octets = Some (drop (place + 1) octets)
behind_place None octets = None

-- the place of the first line feed (10)
abbrev pub line_feed : List ℕ → Option ℕ
line_feed text = position (λ octet. octet == 10) text

abbrev pub first_line : List ℕ → List ℕ
first_line text = before_place (line_feed text) text

abbrev pub behind_line : List ℕ → Option (List ℕ)
behind_line text = behind_place (line_feed text) text

-- these are the lines of a text, if there is one: the first one ends before the first line feed, and the others are
-- those of what is behind it
pub data AreLines : Option (List ℕ) → (lines : List (List ℕ)) → Type 0 where
  none : AreLines None []
  one_more : {lines : List (List ℕ)} (text : List ℕ) → AreLines (behind_line text) lines
      → AreLines (Some text) (first_line text ∷ lines)
