-- The line within a length is that of the longest prefix of at most this length.
use Rattle.std.proofs.Common.{◌≡◌, ℕ, zero, suc, ◌≤◌, List, [], ◌∷◌, ◌++◌, take, drop, length, Option, Some, None, refl, sym, ap, ◌∙◌, subst, inl, inr, arith}
use Rattle.std.specs.Prelude.{MatchOption, ◌⊎◌}
use Rattle.std.specs.Option.{option_map}
use Rattle.std.specs.FinMap.{get}
use Rattle.address_routes.specs.declared.line_no.LineNo.{LineNo}
use Rattle.address_routes.specs.Routes.{RouteMap, Begins, IsLongest, NoneBegins, or_else, line_within, line_for}

length-take-all : (xs : List ℕ) (n : ℕ) → n ≤ length xs → length (take n xs) ≡ n
length-take-all xs zero h = refl
length-take-all [] (suc n) h = absurd (omega arith)
length-take-all (x ∷ xs) (suc n) h =
    (let same : length (take n xs) ≡ n = length-take-all xs n (omega arith) in omega arith)

take-drop : (xs : List ℕ) (n : ℕ) → xs ≡ take n xs ++ drop n xs
take-drop xs zero = refl
take-drop [] (suc n) = refl
take-drop (x ∷ xs) (suc n) = ap (λ ys. x ∷ ys) (take-drop xs n)

take-front : (xs ys : List ℕ) → take (length xs) (xs ++ ys) ≡ xs
take-front [] ys = refl
take-front (x ∷ xs) ys = ap (λ zs. x ∷ zs) (take-front xs ys)

length-front : (xs ys : List ℕ) → length xs ≤ length (xs ++ ys)
length-front [] ys = omega arith
length-front (x ∷ xs) ys = (let h : length xs ≤ length (xs ++ ys) = length-front xs ys in omega arith)

begins-take : (prefix address : List ℕ) (n : ℕ) → Begins prefix address → length prefix ≡ n → prefix ≡ take n address
begins-take prefix address n b is = sym (take-front prefix b.rest) ∙ ap (λ xs. take (length prefix) xs) (sym b.is)
    ∙ ap (λ m. take m address) is

begins-length : (prefix address : List ℕ) → Begins prefix address → length prefix ≤ length address
begins-length prefix address b =
    let P : List ℕ → Type 0 = λ xs. length prefix ≤ length xs in
    subst P (sym b.is) (length-front prefix b.rest)

-- the prefix of so many digits
front : (address : List ℕ) (n : ℕ) → suc n ≤ length address → Begins (take (suc n) address) address
front address n h = record {
  some = (let same : length (take (suc n) address) ≡ suc n = length-take-all address (suc n) h in omega arith);
  rest = drop (suc n) address;
  is = take-drop address (suc n);
}

-- the line of the longest prefix of at most n digits, or that none has a route
record LongestTo (n : ℕ) (routes : RouteMap) (address : List ℕ) (line : ℕ) : Type 0 where
  prefix : List ℕ
  has_route : get routes prefix ≡ Some line
  begins : Begins prefix address
  longest : (other : List ℕ) → (far : ℕ) → get routes other ≡ Some far → Begins other address → length other ≤ n
      → length other ≤ length prefix

abbrev NoneTo : ℕ → RouteMap → List ℕ → Type 0
NoneTo n routes address = (prefix : List ℕ) → (line : ℕ) → get routes prefix ≡ Some line → Begins prefix address
    → length prefix ≤ n → ⊥

abbrev IsTo : ℕ → RouteMap → List ℕ → Option ℕ → Type 0
IsTo n routes address None = NoneTo n routes address
IsTo n routes address (Some line) = LongestTo n routes address line

shorter : (m n : ℕ) → m ≤ suc n → (m ≤ n) ⊎ (m ≡ suc n)
shorter zero n h = inl (omega arith)
shorter (suc m) zero h = inr (omega arith)
shorter (suc m) (suc n) h =
    elim (shorter m n (omega arith)) [ inl less ↦ inl (omega arith) | inr same ↦ inr (ap suc same) ]

-- none of just so many digits has a route
none_there : (n : ℕ) (routes : RouteMap) (address other : List ℕ) (far : ℕ) → get routes (take (suc n) address) ≡ None
    → get routes other ≡ Some far
    → Begins other address → length other ≤ suc n → length other ≤ n
none_there n routes address other far none is b h =
    elim (shorter (length other) n h) [
      | inl less ↦ less
      | inr same ↦ absurd
          (let at : get routes other ≡ None = ap (get routes) (begins-take other address (suc n) b same) ∙ none in cc)
    ]

one_further : (n : ℕ) (routes : RouteMap) (address : List ℕ) (here within : Option ℕ) → suc n ≤ length address
    → get routes (take (suc n) address) ≡ here
    → IsTo n routes address within → IsTo (suc n) routes address (or_else here within)
one_further n routes address (Some line) within h is below = record {
  prefix = take (suc n) address;
  has_route = is;
  begins = front address n h;
  longest =
      λ other far _ b most.
      (let same : length (take (suc n) address) ≡ suc n = length-take-all address (suc n) h in omega arith);
}
one_further n routes address None None h is below =
    λ prefix line has b most. below prefix line has b (none_there n routes address prefix line is has b most)
one_further n routes address None (Some line) h is below = record {
  prefix = below.prefix;
  has_route = below.has_route;
  begins = below.begins;
  longest = λ other far has b most. below.longest other far has b (none_there n routes address other far is has b most);
}

within : (n : ℕ) (routes : RouteMap) (address : List ℕ) → n ≤ length address
    → IsTo n routes address (line_within n routes address)
within zero routes address h = λ prefix line has b most. (let some : 1 ≤ length prefix = b.some in absurd (omega arith))
within (suc n) routes address h =
    one_further n routes address (get routes (take (suc n) address)) (line_within n routes address) h refl
    (within n routes address (omega arith))

of_all : (routes : RouteMap) (address : List ℕ) (found : Option LineNo)
    → IsTo (length address) routes address (option_map (λ line. line.0) found)
    → MatchOption found (NoneBegins routes address) (λ line. IsLongest routes address line.0)
of_all routes address None none = λ prefix line has b. none prefix line has b (begins-length prefix address b)
of_all routes address (Some line) is = record {
  prefix = is.prefix;
  has_route = is.has_route;
  begins = is.begins;
  longest = λ other far has b. is.longest other far has b (begins-length other address b);
}

-- what is found is the line of the longest prefix
pub found_longest : (routes : RouteMap) (address : List ℕ) (found : Option LineNo)
    → option_map (λ line. line.0) found ≡ line_for routes address
    → MatchOption found (NoneBegins routes address) (λ line. IsLongest routes address line.0)
found_longest routes address found is =
    let P : Option ℕ → Type 0 = λ o. IsTo (length address) routes address o in
    of_all routes address found (subst P (sym is) (within (length address) routes address (omega arith)))
