-- What begins a route's prefix, and how many beginnings of an address do.
use Rattle.std.proofs.Common.{◌≡◌, ℕ, zero, suc, ◌+◌, ◌-◌, ◌<◌, ◌≤◌, Bool, true, false, cond, ◌||◌, eqb, leb, List, [], ◌∷◌, ◌++◌, take, drop, length, get_or, Option, Some, None, is_some, refl, sym, ap, ◌∙◌, subst, arith, eq-eqb, eqb-true, take-append-drop, length-take-le, take-take}
use Rattle.std.specs.List.{list_any, starts_with}
use Rattle.std.specs.Cmp.Lexicographic.{pointwise}
use Rattle.std.specs.FinMap.{get, keys, contains_key-keys}
use Rattle.std.proofs.lemmas.Bool.{and_parts, and_from, or_left, or_right, false_from_ne_true}
use Rattle.std.proofs.lemmas.List.{take_more, take_all}
use Rattle.packet_codec.specs.Address.{are_decimal, AreDigits}
use Rattle.address_routes.specs.declared.tree.Node.{Node}
use Rattle.address_routes.specs.Routes.{RouteMap, begins_a_route, beginnings, looks_for, line_within, line_for, or_else}
use Rattle.address_routes.specs.Tree.{and_then, child, walk, line_at, line_of, line_to}
use Rattle.address_routes.specs.RoutesView.{map_of, BeginsRoute, AreRoutes}
use Rattle.address_routes.proofs.Walks.{walk_on, walk_one, walk_within}
use Rattle.address_routes.proofs.Collecting.{same, same_is, same_itself, get_prefix, get_back, is_prefix}
use Rattle.address_routes.proofs.Growing.{linked, path_of}

starts_append : (q r : List ℕ) → pointwise eqb q (take (length q) (q ++ r)) ≡ true
starts_append [] r = refl
starts_append (d ∷ q) r = and_from (eqb d d) _ (eq-eqb d d refl) (starts_append q r)

starts_is : (p q : List ℕ) → pointwise eqb q (take (length q) p) ≡ true → p ≡ q ++ drop (length q) p
starts_is p [] starts = refl
starts_is [] (d ∷ q) starts = absurd (cc)
starts_is (e ∷ p) (d ∷ q) starts =
    let parts : (eqb d e ≡ true) × (pointwise eqb q (take (length q) p) ≡ true) = and_parts (eqb d e) _ starts in
    ap (λ rest. e ∷ rest) (starts_is p q parts.1) ∙ ap (λ f. f ∷ (q ++ drop (length q) p)) (sym (eqb-true d e parts.0))

any_same : (test : List ℕ → Bool) (p : List ℕ) (ps : List (List ℕ)) → test p ≡ true → list_any (same p) ps ≡ true
    → list_any test ps ≡ true
any_same test p [] passes found = absurd (cc)
any_same test p (q ∷ ps) passes found =
    elim (same p q) as (λ b. same p q ≡ b → (b || list_any (same p) ps) ≡ true → (test q || list_any test ps) ≡ true) [
      | true ↦ λ at _. or_left _ _ (ap test (sym (same_is p q at)) ∙ passes)
      | false ↦ λ _ later. or_right (test q) _ (any_same test p ps passes later)
    ] refl found

any_has : (test : List ℕ → Bool) (ps : List (List ℕ)) → list_any test ps ≡ true
    → (p : List ℕ) × (test p ≡ true) × (list_any (same p) ps ≡ true)
any_has test [] found = absurd (cc)
any_has test (q ∷ ps) found =
    elim (test q) as
    (λ b. test q ≡ b → (b || list_any test ps) ≡ true
    → (p : List ℕ) × (test p ≡ true) × ((same p q || list_any (same p) ps) ≡ true)) [
      | true ↦ λ passes _. (q, passes, or_left _ _ (same_itself q))
      | false ↦ λ _ later. (let more = any_has test ps later in (more.0, more.1, or_right (same more.0 q) _ more.2))
    ] refl found

a_line : (o : Option ℕ) → is_some o ≡ true → (line : ℕ) × (o ≡ Some line)
a_line None h = absurd (cc)
a_line (Some line) h = (line, refl)

-- the test says whether some route's prefix begins with the digits
pub begins_is : (routes : RouteMap) (q : List ℕ) → BeginsRoute routes q → begins_a_route routes q ≡ true
begins_is routes q begins =
    any_same (λ p. starts_with eqb p q) (q ++ begins.further) (keys routes) (starts_append q begins.further)
    (sym (contains_key-keys routes (q ++ begins.further)) ∙ ap is_some begins.has_route)

pub begins_has : (routes : RouteMap) (q : List ℕ) → begins_a_route routes q ≡ true → BeginsRoute routes q
begins_has routes q found =
    let key = any_has (λ p. starts_with eqb p q) (keys routes) found in
    let at = a_line (get routes key.0) (contains_key-keys routes key.0 ∙ key.2) in
    record {
      further = drop (length q) key.0;
      line = at.0;
      has_route = ap (get routes) (sym (starts_is key.0 q key.1)) ∙ at.1;
    }

not_root : (nodes : List Node) {count : ℕ} (are : AreRoutes nodes count) (n : ℕ) (q : List ℕ) → 1 ≤ length q
    → are.tree.path n ≡ q → 0 < n
not_root nodes are zero q some path =
    (let none : q ≡ [] = sym path
    ∙ are.tree.root in let P : List ℕ → Type 0 =
    λ q. 1 ≤ length q in absurd (let wrong : 1 ≤ 0 = subst P none some in omega arith))
not_root nodes are (suc n) q some path = omega arith

-- digits that lead to a node begin some route's prefix
leads_begins : (nodes : List Node) (count : ℕ) → AreRoutes nodes count → (q : List ℕ) (n : ℕ) → 1 ≤ length q
    → walk nodes q 0 ≡ Some n
    → begins_a_route (map_of nodes) q ≡ true
leads_begins nodes count are q n some leads =
    let P : List ℕ → Type 0 = BeginsRoute (map_of nodes) in
    let path : are.tree.path n ≡ q = path_of P nodes are.tree q n leads in
    let within : n < length nodes = walk_within nodes (linked P nodes are.tree) q 0 n are.tree.some leads in
    begins_is (map_of nodes) q (subst P path (are.tree.used n (not_root nodes are n q some path) within))

-- and digits that lead to none do not
nowhere_begins : (nodes : List Node) (q : List ℕ) → walk nodes q 0 ≡ None → begins_a_route (map_of nodes) q ≡ false
nowhere_begins nodes q nowhere =
    false_from_ne_true (begins_a_route (map_of nodes) q) (λ found.
    let begins = begins_has (map_of nodes) q found in
    let has_line : line_of nodes (q ++ begins.further) ≡ Some begins.line =
    get_back (line_of nodes) (q ++ begins.further) begins.line begins.has_route in
    let none : line_of nodes (q ++ begins.further) ≡ None =
    ap (λ o. and_then o (line_at nodes)) (walk_on nodes q begins.further 0 None nowhere) in
    cc)

take_both : (digits : List ℕ) (m n : ℕ) → m ≤ n → take m digits ++ drop m (take n digits) ≡ take n digits
take_both digits m n h = ap (λ p. p ++ drop m (take n digits)) (sym (take-take m n digits h))
    ∙ take-append-drop m (take n digits)

-- a walk stops where the next digit leads nowhere
pub record Stops (nodes : List Node) (digits : List ℕ) (known n : ℕ) : Type 0 where
  pub reached : walk nodes (take known digits) 0 ≡ Some n
  pub within : known ≤ length digits
  pub last : known < length digits → child nodes n (get_or digits known 0) ≡ None

pub beyond : (nodes : List Node) (digits : List ℕ) (known n : ℕ) → Stops nodes digits known n → (m : ℕ) → known < m
    → m ≤ length digits
    → walk nodes (take m digits) 0 ≡ None
beyond nodes digits known n s m more most =
    let d : ℕ = get_or digits known 0 in
    let next : take (known + 1) digits ≡ take known digits ++ d ∷ [] = take_more digits known 0 (omega arith) in
    let nowhere : walk nodes (take (known + 1) digits) 0 ≡ None =
    ap (λ p. walk nodes p 0) next ∙ walk_on nodes (take known digits) (d ∷ []) 0 (Some n) s.reached
    ∙ walk_one nodes n d None (s.last (omega arith)) in
    ap (λ p. walk nodes p 0) (sym (take_both digits (known + 1) m (omega arith)))
    ∙ walk_on nodes (take (known + 1) digits) (drop (known + 1) (take m digits)) 0 None nowhere

arrives : (nodes : List Node) (digits : List ℕ) (known n : ℕ) → Stops nodes digits known n → (m : ℕ) → m ≤ known
    → (o : Option ℕ) → walk nodes (take m digits) 0 ≡ o → (k : ℕ) × (o ≡ Some k)
arrives nodes digits known n s m h (Some k) is = (k, refl)
arrives nodes digits known n s m h None is =
    let reached = s.reached in
    let none : walk nodes (take known digits) 0 ≡ None =
    ap (λ p. walk nodes p 0) (sym (take_both digits m known h))
    ∙ walk_on nodes (take m digits) (drop m (take known digits)) 0 None is in
    absurd (cc)

-- where it stops before the end, all the digits have no line
pub no_whole : (nodes : List Node) (digits : List ℕ) (known n : ℕ) → Stops nodes digits known n → known < length digits
    → line_of nodes digits ≡ None
no_whole nodes digits known n s less =
    ap (λ o. and_then o (line_at nodes))
    (ap (λ p. walk nodes p 0) (sym (take_all (length digits) digits (omega arith)))
    ∙ beyond nodes digits known n s (length digits) less (omega arith))

-- and where it reaches the end, the line of the node there
pub whole_line : (nodes : List Node) (digits : List ℕ) (known n : ℕ) → walk nodes (take known digits) 0 ≡ Some n
    → length digits ≤ known
    → line_of nodes digits ≡ line_at nodes n
whole_line nodes digits known n reached all =
    ap (λ o. and_then o (line_at nodes)) (ap (λ p. walk nodes p 0) (sym (take_all known digits all)) ∙ reached)

-- before it stops, it is at a node
somewhere : (nodes : List Node) (digits : List ℕ) (known n : ℕ) → Stops nodes digits known n → (m : ℕ) → m ≤ known
    → (k : ℕ) × (walk nodes (take m digits) 0 ≡ Some k)
somewhere nodes digits known n s m h =
    arrives nodes digits known n s m h (walk nodes (take m digits) 0) refl

zero_more : (n : ℕ) → zero + n ≡ n
zero_more n = omega arith

suc_more : (m n : ℕ) → suc m + n ≡ suc (m + n)
suc_more m n = omega arith

begins_before : (nodes : List Node) (count : ℕ) → AreRoutes nodes count → (digits : List ℕ) (known n : ℕ)
    → Stops nodes digits known n
    → (m : ℕ) → m ≤ known → beginnings m (map_of nodes) digits ≡ m
begins_before nodes count are digits known n s zero h = refl
begins_before nodes count are digits known n s (suc m) h =
    let at = somewhere nodes digits known n s (suc m) h in
    let within : known ≤ length digits = s.within in
    let begins : begins_a_route (map_of nodes) (take (suc m) digits) ≡ true =
    leads_begins nodes count are (take (suc m) digits) at.0
    (let some : length (take (suc m) digits) ≡ suc m =
    length-take-le (suc m) digits (omega arith) in omega arith) at.1 in
    let before : beginnings m (map_of nodes) digits ≡ m =
    begins_before nodes count are digits known n s m (omega arith) in
    ap (λ b. beginnings m (map_of nodes) digits + cond b 1 0) begins ∙ omega arith

begins_all : (nodes : List Node) (count : ℕ) → AreRoutes nodes count → (digits : List ℕ) (known n : ℕ)
    → Stops nodes digits known n
    → (more : ℕ) → more + known ≤ length digits → beginnings (more + known) (map_of nodes) digits ≡ known
begins_all nodes count are digits known n s zero h =
    ap (λ m. beginnings m (map_of nodes) digits) (zero_more known)
    ∙ begins_before nodes count are digits known n s known (omega arith)
begins_all nodes count are digits known n s (suc more) h =
    ap (λ m. beginnings m (map_of nodes) digits) (suc_more more known)
    ∙ ap (λ b. beginnings (more + known) (map_of nodes) digits + cond b 1 0)
    (nowhere_begins nodes (take (suc (more + known)) digits)
    (beyond nodes digits known n s (suc (more + known)) (omega arith) (omega arith)))
    ∙ (let before : beginnings (more + known) (map_of nodes) digits ≡ known =
    begins_all nodes count are digits known n s more (omega arith) in omega arith)

-- a walk looks at the nodes that there are
pub looks_are : (nodes : List Node) (count : ℕ) → AreRoutes nodes count → (digits : List ℕ) (known n : ℕ)
    → Stops nodes digits known n
    → known + 1 ≡ looks_for (map_of nodes) digits
looks_are nodes count are digits known n s =
    let within : known ≤ length digits = s.within in
    let all : beginnings ((length digits - known) + known) (map_of nodes) digits ≡ known =
    begins_all nodes count are digits known n s (length digits - known) (omega arith) in
    let split : (length digits - known) + known ≡ length digits = omega arith in
    let whole : beginnings (length digits) (map_of nodes) digits ≡ known =
    ap (λ m. beginnings m (map_of nodes) digits) (sym split) ∙ all in
    omega arith

decimal_take : (n : ℕ) (digits : List ℕ) → are_decimal digits ≡ true → are_decimal (take n digits) ≡ true
decimal_take zero digits h = refl
decimal_take (suc n) [] h = refl
decimal_take (suc n) (d ∷ digits) h =
    let parts : (leb d 9 ≡ true) × (are_decimal digits ≡ true) = and_parts (leb d 9) (are_decimal digits) h in
    and_from (leb d 9) _ parts.0 (decimal_take n digits parts.1)

-- the line of the map is the line of the tree
line_same : (nodes : List Node) (digits : List ℕ) → are_decimal digits ≡ true → length digits ≤ 15 → (m : ℕ)
    → m ≤ length digits
    → line_within m (map_of nodes) digits ≡ line_to m nodes digits
line_same nodes digits decimal most zero h = refl
line_same nodes digits decimal most (suc m) h =
    let some : length (take (suc m) digits) ≡ suc m = length-take-le (suc m) digits h in
    ap (λ o. or_else o (line_within m (map_of nodes) digits))
    (get_prefix (line_of nodes) (take (suc m) digits)
    (is_prefix (take (suc m) digits) (decimal_take (suc m) digits decimal) (omega arith) (omega arith)))
    ∙ ap (or_else (line_of nodes (take (suc m) digits))) (line_same nodes digits decimal most m (omega arith))

line_all : (nodes : List Node) (digits : List ℕ) (known n : ℕ) → Stops nodes digits known n → (more : ℕ)
    → more + known ≤ length digits
    → line_to (more + known) nodes digits ≡ line_to known nodes digits
line_all nodes digits known n s zero h = ap (λ m. line_to m nodes digits) (zero_more known)
line_all nodes digits known n s (suc more) h =
    ap (λ m. line_to m nodes digits) (suc_more more known)
    ∙ ap (λ o. or_else (and_then o (line_at nodes)) (line_to (more + known) nodes digits))
    (beyond nodes digits known n s (suc (more + known)) (omega arith) (omega arith))
    ∙ line_all nodes digits known n s more (omega arith)

pub line_is : (nodes : List Node) (digits : List ℕ) (known n : ℕ) → AreDigits digits → Stops nodes digits known n
    → line_to known nodes digits ≡ line_for (map_of nodes) digits
line_is nodes digits known n are s =
    let within : known ≤ length digits = s.within in
    let split : (length digits - known) + known ≡ length digits = omega arith in
    sym (line_all nodes digits known n s (length digits - known) (omega arith))
    ∙ ap (λ m. line_to m nodes digits) split
    ∙ sym (line_same nodes digits are.2 are.1 (length digits) (omega arith))

-- the same, of the map that the tree is and of the address that the digits are
pub line_found : (nodes : List Node) (routes : RouteMap) (digits address : List ℕ) (known n : ℕ)
    → map_of nodes ≡ routes → digits ≡ address
    → AreDigits address → Stops nodes digits known n → line_to known nodes digits ≡ line_for routes address
line_found nodes routes digits address known n view is are s =
    line_is nodes digits known n (subst AreDigits (sym is) are) s ∙ ap (line_for (map_of nodes)) is
    ∙ ap (λ m. line_for m address) view

pub looks_found : (nodes : List Node) (count : ℕ) (routes : RouteMap) (digits address : List ℕ) (known n : ℕ)
    → AreRoutes nodes count
    → map_of nodes ≡ routes → digits ≡ address → Stops nodes digits known n → known + 1 ≡ looks_for routes address
looks_found nodes count routes digits address known n are view is s =
    looks_are nodes count are digits known n s ∙ ap (looks_for (map_of nodes)) is ∙ ap (λ m. looks_for m address) view
