-- Routes as a map from prefixes to lines, and the longest prefix of an address.
use Rattle.std.specs.Prelude.{◌≡◌, ℕ, zero, suc, ◌+◌, ◌≤◌, Bool, ◌++◌, List, length, take, Option, Some, None, eqb}
use Rattle.std.specs.Prelude.{nat_le, if◌then◌else◌}
use Rattle.std.specs.List.{list_any, starts_with}
use Rattle.std.specs.FinMap.{FinMap, get, len, contains_key, keys}
use Rattle.std.specs.Cmp.Lexicographic.{slice_cmp}
use Rattle.std.specs.Ordering.{nat_cmp}
use Rattle.std.specs.declared.cmp.Ordering.{Ordering}
use Rattle.address_routes.specs.declared.fault.RouteFault.{RouteFault}
use Rattle.address_routes.specs.declared.fault.RouteFault.TheVariants.{Duplicate, Full}

-- prefixes in the order of their digits
abbrev pub by_digits : List ℕ → List ℕ → Ordering
by_digits = slice_cmp nat_cmp

-- each prefix that has a route, with its line
abbrev pub RouteMap : Type 0
RouteMap = FinMap by_digits ℕ

-- one digit or more begin the address
pub record Begins (digits address : List ℕ) : Type 0 where
  pub some : 1 ≤ length digits
  pub rest : List ℕ
  pub is : address ≡ digits ++ rest

-- **the line of the longest prefix**: a prefix has a route to the line, it begins the address, and no longer one that
-- has a route does
pub record IsLongest (routes : RouteMap) (address : List ℕ) (line : ℕ) : Type 0 where
  pub prefix : List ℕ
  pub has_route : get routes prefix ≡ Some line
  pub begins : Begins prefix address
  pub longest : (other : List ℕ) → (far : ℕ) → get routes other ≡ Some far → Begins other address
      → length other ≤ length prefix

-- no prefix that has a route begins the address
abbrev pub NoneBegins : RouteMap → List ℕ → Type 0
NoneBegins routes address = (prefix : List ℕ) → (line : ℕ) → get routes prefix ≡ Some line → Begins prefix address → ⊥

-- the first line, or else the second
abbrev pub or_else : Option ℕ → Option ℕ → Option ℕ
or_else (Some line) other = Some line
or_else None other = other

-- the line of the longest prefix among those of at most so many digits
abbrev pub line_within : ℕ → RouteMap → List ℕ → Option ℕ
line_within zero routes address = None
line_within (suc n) routes address = or_else (get routes (take (suc n) address)) (line_within n routes address)

-- the line that calls to the address go to
abbrev pub line_for : RouteMap → List ℕ → Option ℕ
line_for routes address = line_within (length address) routes address

-- whether some route's prefix begins with the digits
abbrev pub begins_a_route : RouteMap → List ℕ → Bool
begins_a_route routes digits = list_any (λ prefix. starts_with eqb prefix digits) (keys routes)

-- how many beginnings of the address, of at most so many digits, begin some route's prefix
abbrev pub beginnings : ℕ → RouteMap → List ℕ → ℕ
beginnings zero routes address = 0
beginnings (suc n) routes address =
    beginnings n routes address + (if begins_a_route routes (take (suc n) address) then 1 else 0)

-- how many nodes are looked at for the address: the root, and one for each such beginning
abbrev pub looks_for : RouteMap → List ℕ → ℕ
looks_for routes address = 1 + beginnings (length address) routes address

-- why a route is not added, but for want of memory
abbrev pub add_fault : List ℕ → RouteMap → Option RouteFault
add_fault prefix routes =
    if contains_key routes prefix then Some Duplicate
    else if nat_le 256 (len routes) then Some Full
    else None
