-- Which map a tree of digits is.
use Rattle.std.specs.Prelude.{◌≡◌, ℕ, zero, suc, ◌+◌, ◌*◌, ◌<◌, ◌≤◌, List, [], ◌∷◌, ◌++◌, length, map, Option, Some}
use Rattle.std.specs.Prelude.{None}
use Rattle.std.specs.List.{flat_map}
use Rattle.std.specs.FinMap.{from_entries, len, get}
use Rattle.address_routes.specs.declared.tree.Node.{Node}
use Rattle.address_routes.specs.declared.tree.NodeNo.{NodeNo}
use Rattle.address_routes.specs.Routes.{RouteMap}
use Rattle.address_routes.specs.Tree.{node_at, child, line_of}

abbrev pub ten_digits : List ℕ
ten_digits = 0 ∷ 1 ∷ 2 ∷ 3 ∷ 4 ∷ 5 ∷ 6 ∷ 7 ∷ 8 ∷ 9 ∷ []

-- the lists of so many decimal digits
unfoldable pub of_length : ℕ → List (List ℕ)
of_length zero = [] ∷ []
of_length (suc n) = flat_map (λ digit. map (λ digits. digit ∷ digits) (of_length n)) ten_digits

-- the lists of one to so many decimal digits
unfoldable pub up_to : ℕ → List (List ℕ)
up_to zero = []
up_to (suc n) = of_length (suc n) ++ up_to n

-- all that may be a prefix
unfoldable pub prefixes : List (List ℕ)
prefixes = up_to 15

abbrev pub with_entry : List ℕ → Option ℕ → List (List ℕ × ℕ) → List (List ℕ × ℕ)
with_entry prefix None entries = entries
with_entry prefix (Some line) entries = (prefix, line) ∷ entries

-- those prefixes that have a line, each with its line
abbrev pub entries_of : (List ℕ → Option ℕ) → List (List ℕ) → List (List ℕ × ℕ)
entries_of has_line [] = []
entries_of has_line (prefix ∷ others) = with_entry prefix (has_line prefix) (entries_of has_line others)

abbrev pub collected : (List ℕ → Option ℕ) → RouteMap
collected has_line = from_entries (entries_of has_line prefixes)

-- each prefix that leads to a node with a line, with this line
abbrev pub map_of : List Node → RouteMap
map_of nodes = collected (line_of nodes)

-- some route's prefix begins with the digits
pub record BeginsRoute (routes : RouteMap) (digits : List ℕ) : Type 0 where
  pub further : List ℕ
  pub line : ℕ
  pub has_route : get routes (digits ++ further) ≡ Some line

-- each node has ten places and the digits that lead to it, its path, and each node but the root is of use
pub record IsTree (IsUsed : List ℕ → Type 0) (nodes : List Node) : Type 0 where
  pub path : ℕ → List ℕ
  pub root : path 0 ≡ []
  pub edges : (n digit : ℕ) (c : NodeNo) → child nodes n digit ≡ Some c
      → (c.0 < length nodes) × (path c.0 ≡ path n ++ digit ∷ [])
  pub used : (n : ℕ) → 0 < n → n < length nodes → IsUsed (path n)
  pub some : 0 < length nodes
  pub ten : (n : ℕ) → n < length nodes → length (node_at nodes n).next ≡ 10

-- a tree in which each node but the root begins some route's prefix, and so many routes, at most 256
pub record AreRoutes (nodes : List Node) (count : ℕ) : Type 0 where
  pub tree : IsTree (BeginsRoute (map_of nodes)) nodes
  pub counted : len (map_of nodes) ≡ count
  pub most : count ≤ 256
  pub size : length nodes ≤ 1 + 15 * count
