-- One route more: the faults, and what the tree and the map then are.
use Rattle.std.proofs.Common.{◌≡◌, ℕ, ◌+◌, ◌-◌, ◌*◌, ◌<◌, ◌≤◌, Bool, true, false, cond, leb, le-leb, List, ◌∷◌, ◌++◌, length, get_or, take, drop, Option, Some, None, is_some, Result, Err, MatchOption, refl, sym, ap, ◌∙◌, subst, arith, length-append, length-take-le, length-set, take-append-drop}
use Rattle.std.specs.Option.{option_map}
use Rattle.std.specs.FinMap.{get, len, insert, contains_key, get-insert, len-insert}
use Rattle.std.specs.Cmp.Lexicographic.{nat_list_cmp_total}
use Rattle.std.proofs.lemmas.List.{take_rest, get_or_at}
use Rattle.std.proofs.lemmas.List.Folds.{list_all-append}
use Rattle.std.proofs.lemmas.Bool.{and_parts, lt-leb}
use Rattle.packet_codec.specs.Address.{are_decimal, AreDigits}
use Rattle.address_routes.specs.declared.fault.RouteFault.{RouteFault}
use Rattle.address_routes.specs.declared.fault.RouteFault.TheVariants.{Duplicate, Full}
use Rattle.address_routes.specs.declared.line_no.LineNo.{LineNo}
use Rattle.address_routes.specs.declared.tree.Node.{Node}
use Rattle.address_routes.specs.Routes.{RouteMap, add_fault}
use Rattle.address_routes.specs.Tree.{child, walk, line_of, with_nodes, last_node, with_line}
use Rattle.address_routes.specs.RoutesView.{map_of, BeginsRoute, IsTree, AreRoutes}
use Rattle.address_routes.proofs.Walks.{walk_within}
use Rattle.address_routes.proofs.Collecting.{same, same_itself, collected_more, get_prefix, is_prefix}
use Rattle.address_routes.proofs.Growing.{linked, used_for, StartsNothing, Grown, grow, tree_lined, line_of_lined}
use Rattle.address_routes.proofs.Beginnings.{Stops}

-- what the map says of an address is what the tree says
pub get_address : (nodes : List Node) (digits : List ℕ) → AreDigits digits
    → get (map_of nodes) digits ≡ line_of nodes digits
get_address nodes digits are = get_prefix (line_of nodes) digits (is_prefix digits are.2 are.0 are.1)

some_line : (o : Option LineNo) → is_some (option_map (λ line. line.0) o) ≡ is_some o
some_line None = refl
some_line (Some line) = refl

no_line : (o : Option LineNo) → is_some o ≡ false → option_map (λ line. line.0) o ≡ None
no_line None has = refl
no_line (Some line) has = absurd (cc)

-- the map has the digits where all of them lead to a line
pub routed : (nodes : List Node) (routes : RouteMap) (digits address : List ℕ) (whole : Option LineNo)
    → map_of nodes ≡ routes → digits ≡ address
    → AreDigits address → option_map (λ line. line.0) whole ≡ line_of nodes digits
    → contains_key routes address ≡ is_some whole
routed nodes routes digits address whole view is are has =
    ap (λ m. contains_key m address) (sym view)
    ∙ ap is_some (get_address nodes address are ∙ ap (line_of nodes) (sym is) ∙ sym has)
    ∙ some_line whole

pub unrouted : (nodes : List Node) (digits : List ℕ) (whole : Option LineNo)
    → option_map (λ line. line.0) whole ≡ line_of nodes digits
    → is_some whole ≡ false → line_of nodes digits ≡ None
unrouted nodes digits whole has none = sym has ∙ no_line whole none

pub duplicate : (routes : RouteMap) (digits : List ℕ) → contains_key routes digits ≡ true
    → add_fault digits routes ≡ Some Duplicate
duplicate routes digits has = ap (λ b. cond b (Some Duplicate) (cond (leb 256 (len routes)) (Some Full) None)) has

pub full : (routes : RouteMap) (digits : List ℕ) → contains_key routes digits ≡ false → 256 ≤ len routes
    → add_fault digits routes ≡ Some Full
full routes digits has many =
    ap (λ b. cond b (Some Duplicate) (cond (leb 256 (len routes)) (Some Full) None)) has
    ∙ ap (λ b. cond b (Some Full) None) (le-leb 256 (len routes) many)

pub no_fault : (routes : RouteMap) (digits : List ℕ) → contains_key routes digits ≡ false → len routes < 256
    → add_fault digits routes ≡ None
no_fault routes digits has few =
    ap (λ b. cond b (Some Duplicate) (cond (leb 256 (len routes)) (Some Full) None)) has
    ∙ ap (λ b. cond b (Some Full) None) (lt-leb 256 (len routes) few)

begins_still : (routes : RouteMap) (digits : List ℕ) (line : ℕ) (q : List ℕ) (begins : BeginsRoute routes q) (b : Bool)
    → same (q ++ begins.further) digits ≡ b → BeginsRoute (insert routes digits line) q
begins_still routes digits line q begins true at = record {
  further = begins.further;
  line = line;
  has_route =
      get-insert nat_list_cmp_total routes digits line (q ++ begins.further)
      ∙ ap (λ b. cond b (Some line) (get routes (q ++ begins.further))) at;
}
begins_still routes digits line q begins false at = record {
  further = begins.further;
  line = begins.line;
  has_route =
      get-insert nat_list_cmp_total routes digits line (q ++ begins.further)
      ∙ ap (λ b. cond b (Some line) (get routes (q ++ begins.further))) at
      ∙ begins.has_route;
}

-- what a fault, or none, says of a result
pub says : (o : Option RouteFault) (fault : RouteFault) (without : Type 0) (result : Result (Unit {0}) RouteFault)
    → o ≡ Some fault → result ≡ Err fault
    → MatchOption o without (λ fault. result ≡ Err fault)
says o fault without result is answered =
    let P : Option RouteFault → Type 0 =
    λ o. MatchOption o without (λ fault. result ≡ Err fault) in subst P (sym is) answered

pub says_none : (o : Option RouteFault) (without : Type 0) (result : Result (Unit {0}) RouteFault) → o ≡ None → without
    → MatchOption o without (λ fault. result ≡ Err fault)
says_none o without result is holds =
    let P : Option RouteFault → Type 0 =
    λ o. MatchOption o without (λ fault. result ≡ Err fault) in subst P (sym is) holds

-- what begins a route's prefix does so still
still_begins : (routes : RouteMap) (digits : List ℕ) (line : ℕ) (q : List ℕ) → BeginsRoute routes q
    → BeginsRoute (insert routes digits line) q
still_begins routes digits line q begins =
    begins_still routes digits line q begins (same (q ++ begins.further) digits) refl

-- the digits that are left, as the code cuts them
pub whole_of : (digits : List ℕ) (known : ℕ)
    → take known digits ++ take (length digits - known) (drop known digits) ≡ digits
whole_of digits known = ap (λ q. take known digits ++ q) (take_rest digits known) ∙ take-append-drop known digits

decimal_parts : (p q : List ℕ) → are_decimal (p ++ q) ≡ true → are_decimal q ≡ true
decimal_parts p q decimal =
    (and_parts (are_decimal p) (are_decimal q) (sym (list_all-append (λ digit. leb digit 9) p q) ∙ decimal)).1

pub decimal_rest : (digits address : List ℕ) (known : ℕ) → digits ≡ address → AreDigits address
    → are_decimal (take (length digits - known) (drop known digits)) ≡ true
decimal_rest digits address known is are =
    decimal_parts (take known digits) (take (length digits - known) (drop known digits))
    (ap are_decimal (whole_of digits known ∙ is) ∙ are.2)

-- the first digit that leads nowhere
starts_nothing : (nodes : List Node) (digits further : List ℕ) (known n : ℕ) → Stops nodes digits known n
    → take known digits ++ further ≡ digits
    → StartsNothing nodes n further
starts_nothing nodes digits further known n s whole d ds is =
    let within : known ≤ length digits = s.within in
    let count : length (take known digits) ≡ known = length-take-le known digits within in
    let split : take known digits ++ (d ∷ ds) ≡ digits = ap (λ f. take known digits ++ f) (sym is) ∙ whole in
    let lengths : length (take known digits) + length (d ∷ ds) ≡ length digits =
    sym (length-append (take known digits) (d ∷ ds)) ∙ ap length split in
    let here : get_or digits known 0 ≡ d = ap (λ p. get_or p known 0) (sym split)
    ∙ get_or_at (take known digits) d ds 0 known count in
    ap (child nodes n) (sym here) ∙ s.last (omega arith)

-- what the routes are once a route is added
pub record Added (nodes news : List Node) (count : ℕ) (digits : List ℕ) (line : ℕ) : Type 0 where
  pub are : AreRoutes news (count + 1)
  pub map : map_of news ≡ insert (map_of nodes) digits line

-- the tree with nodes for the further digits, and how it was come to
pub grown_tree : (nodes : List Node) (count : ℕ) (digits further : List ℕ) (known n line : ℕ) → AreRoutes nodes count
    → AreDigits digits
    → Stops nodes digits known n → take known digits ++ further ≡ digits
    → Grown (BeginsRoute (insert (map_of nodes) digits line)) nodes (with_nodes nodes n further)
    (take known digits ++ further)
    (last_node (length nodes) n further) (length further)
grown_tree nodes count digits further known n line are are_digits s whole =
    let Q : List ℕ → Type 0 = BeginsRoute (insert (map_of nodes) digits line) in
    let here : get (insert (map_of nodes) digits line) digits ≡ Some line =
    get-insert nat_list_cmp_total (map_of nodes) digits line digits
    ∙ ap (λ b. cond b (Some line) (get (map_of nodes) digits)) (same_itself digits) in
    grow Q nodes n (take known digits) further
    (used_for (BeginsRoute (map_of nodes)) Q nodes (still_begins (map_of nodes) digits line) are.tree)
    s.reached (decimal_parts (take known digits) further (ap are_decimal whole ∙ are_digits.2))
    (starts_nothing nodes digits further known n s whole)
    (λ q r is. record {
      further = r;
      line = line;
      has_route = ap (get (insert (map_of nodes) digits line)) (is ∙ whole)
          ∙ here;
    })

-- the last node is there
pub last_within : (nodes : List Node) (count : ℕ) (digits further : List ℕ) (known n : ℕ) → AreRoutes nodes count
    → AreDigits digits
    → Stops nodes digits known n → take known digits ++ further ≡ digits
    → last_node (length nodes) n further < length (with_nodes nodes n further)
last_within nodes count digits further known n are are_digits s whole =
    let g = grown_tree nodes count digits further known n 0 are are_digits s whole in
    walk_within (with_nodes nodes n further) (linked _ (with_nodes nodes n further) g.tree)
    (take known digits ++ further) 0 (last_node (length nodes) n further)
    g.tree.some g.walked

pub added : (nodes : List Node) (count : ℕ) (digits further : List ℕ) (known n : ℕ) (line : LineNo)
    → AreRoutes nodes count → AreDigits digits
    → Stops nodes digits known n → take known digits ++ further ≡ digits → line_of nodes digits ≡ None → count < 256
    → Added nodes (with_line (with_nodes nodes n further) (last_node (length nodes) n further) line) count digits line.0
added nodes count digits further known n line are are_digits s whole none few =
    let Q : List ℕ → Type 0 = BeginsRoute (insert (map_of nodes) digits line.0) in
    let news : List Node = with_nodes nodes n further in
    let last : ℕ = last_node (length nodes) n further in
    let g : Grown Q nodes news (take known digits ++ further) last (length further) =
    grown_tree nodes count digits further known n line.0 are are_digits s whole in
    let leads : walk news digits 0 ≡ Some last = ap (λ p. walk news p 0) (sym whole) ∙ g.walked in
    let within : last < length news = walk_within news (linked Q news g.tree) digits 0 last g.tree.some leads in
    let map : map_of (with_line news last line) ≡ insert (map_of nodes) digits line.0 =
    collected_more (line_of nodes) (line_of (with_line news last line)) digits line.0
    (is_prefix digits are_digits.2 are_digits.0 are_digits.1)
    (λ q. line_of_lined Q news last digits line g.tree leads q ∙ ap (cond (same q digits) (Some line.0)) (g.kept q)) in
    let T : RouteMap → Type 0 = λ routes. IsTree (BeginsRoute routes) (with_line news last line) in
    let further_most : length (take known digits) + length further ≡ length digits =
    sym (length-append (take known digits) further) ∙ ap length whole in
    let new : contains_key (map_of nodes) digits ≡ false = ap is_some (get_address nodes digits are_digits ∙ none) in
    record {
      are = record {
        tree = subst T (sym map) (tree_lined Q news last line within g.tree);
        counted =
            ap len map
            ∙ len-insert nat_list_cmp_total (map_of nodes) digits line.0
            ∙ ap (λ b. cond b (len (map_of nodes)) (len (map_of nodes) + 1)) new
            ∙ ap (λ k. k + 1) are.counted;
        most = omega arith;
        size = (let old : length nodes ≤ 1 + 15 * count = are.size in
            let longer : length news ≡ length nodes + length further = g.longer in
            let lines : length (with_line news last line) ≡ length news = length-set news last _ in
            let most : length digits ≤ 15 = are_digits.1 in
            omega arith);
      };
      map = map;
    }

-- the further digits, as the code cuts them
abbrev pub further_of : List ℕ → ℕ → List ℕ
further_of digits known = take (length digits - known) (drop known digits)

-- the last node is there, as the code has it
pub last_there : (nodes middle : List Node) (count : ℕ) (digits address : List ℕ) (known n last : ℕ)
    → AreRoutes nodes count → digits ≡ address
    → AreDigits address → Stops nodes digits known n → middle ≡ with_nodes nodes n (further_of digits known)
    → last ≡ last_node (length nodes) n (further_of digits known) → last < length middle
last_there nodes middle count digits address known n last are is are_digits s grows ends =
    let P : ℕ → List Node → Type 0 = λ k news. k < length news in
    subst (λ k. P k middle) (sym ends)
    (subst (P (last_node (length nodes) n (further_of digits known))) (sym grows)
    (last_within nodes count digits (further_of digits known) known n are (subst AreDigits (sym is) are_digits) s
    (whole_of digits known)))

-- the routes that the code makes
pub made : (nodes middle news : List Node) (count : ℕ) (digits address : List ℕ) (known n last : ℕ) (line : LineNo)
    (whole : Option LineNo)
    → AreRoutes nodes count → digits ≡ address → AreDigits address → Stops nodes digits known n
    → option_map (λ line. line.0) whole ≡ line_of nodes digits → is_some whole ≡ false → count < 256
    → middle ≡ with_nodes nodes n (further_of digits known)
    → last ≡ last_node (length nodes) n (further_of digits known)
    → news ≡ with_line middle last line → Added nodes news count address line.0
made nodes middle news count digits address known n last line whole are is are_digits s has none few grows ends lines =
    let all : Added nodes
    (with_line (with_nodes nodes n (further_of digits known))
    (last_node (length nodes) n (further_of digits known)) line) count digits line.0 =
    added nodes count digits (further_of digits known) known n line are (subst AreDigits (sym is) are_digits) s
    (whole_of digits known)
    (unrouted nodes digits whole has none) few in
    let same : with_line (with_nodes nodes n (further_of digits known))
    (last_node (length nodes) n (further_of digits known)) line ≡ news =
    ap (λ k. with_line (with_nodes nodes n (further_of digits known)) k line) (sym ends)
    ∙ ap (λ ns. with_line ns last line) (sym grows) ∙ sym lines in
    subst (λ address. Added nodes news count address line.0) is
    (subst (λ news. Added nodes news count digits line.0) same all)
