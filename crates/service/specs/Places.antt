-- Terminals by their places in a network.
use Rattle.std.specs.Prelude.{◌≡◌, ◌==◌, ◌&&◌, ℕ, Bool, List, slice_get, Some}
use Rattle.std.specs.List.{list_any}
use Rattle.service.specs.declared.place.Place.{Place}

abbrev pub is_place : (at other : Place) → Bool
is_place at other = other.node == at.node && other.number == at.number

-- whether a place is among these
abbrev pub is_bound : Place → List Place → Bool
is_bound at places = list_any (is_place at) places

-- no two of these are the same
abbrev pub AreApart : List Place → Type 0
AreApart places = (one other : ℕ) (at : Place) → slice_get places one ≡ Some at → slice_get places other ≡ Some at → one ≡ other
