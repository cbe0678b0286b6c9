-- A list that is cut at the first octet of a kind.
use Rattle.std.specs.Prelude.{ℕ, ◌+◌, ◌==◌, List, length, take, drop, position, Option, Some, None}

-- what stands before a place, or all
abbrev pub before_place : Option ℕ → List ℕ → List ℕ
before_place (Some place) octets = take place octets
before_place None octets = octets

-- what stands behind a place, if there is one
abbrev pub behind_place : Option ℕ → List ℕ → Option (List ℕ)
behind_place (Some place) octets = Some (drop (place + 1) octets)
behind_place None octets = None

-- what stands before the first octet of this value, or all where there is none
abbrev pub before : ℕ → List ℕ → List ℕ
before at octets = before_place (position (λ octet. octet == at) octets) octets

-- what stands behind it, if it is there
abbrev pub behind : ℕ → List ℕ → Option (List ℕ)
behind at octets = behind_place (position (λ octet. octet == at) octets) octets

-- how much is left
abbrev pub length_left : Option (List ℕ) → ℕ
length_left None = 0
length_left (Some octets) = length octets + 1
