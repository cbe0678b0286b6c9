-- A tree with one route more.
use Rattle.std.proofs.Common.{◌≡◌, ◌≢◌, inl, inr, ℕ, zero, suc, ◌+◌, ◌<◌, ◌≤◌, Bool, true, false, cond, eqb, List, [], ◌∷◌, ◌++◌, length, get_or, Option, Some, None, refl, sym, ap, ◌∙◌, subst, append_assoc, append-nil, arith, length-set, leb, leb-true, eq-eqb, ne_eqb}
use Rattle.std.specs.Option.{option_map}
use Rattle.std.specs.FinMap.{len, empty, len-empty}
use Rattle.std.proofs.lemmas.List.{get_or-set_same, get_or-set_other}
use Rattle.std.proofs.lemmas.Bool.{cases_eq, cases_lt, and_parts, cond-false, false_from_ne_true}
use Rattle.packet_codec.specs.Address.{are_decimal}
use Rattle.address_routes.specs.declared.line_no.LineNo.{LineNo}
use Rattle.address_routes.specs.declared.tree.Node.{Node}
use Rattle.address_routes.specs.declared.tree.NodeNo.{NodeNo}
use Rattle.address_routes.specs.Routes.{by_digits}
use Rattle.address_routes.specs.Tree.{and_then, new_node, no_node, node_at, child, walk, line_at, line_of, with_child, with_nodes, last_node, with_line, IsLinked}
use Rattle.address_routes.specs.RoutesView.{map_of, IsTree, AreRoutes}
use Rattle.address_routes.proofs.Walks.{child_push, walk_on, walk_one, walk_within, child_past, length-with_child, child_new, child_either, walk_keeps, new_leads_nowhere, value_keeps, ten_with_child}
use Rattle.address_routes.proofs.Collecting.{same, same_is, same_itself, collected_none}

pub linked : (P : List ℕ → Type 0) (nodes : List Node) → IsTree P nodes → IsLinked nodes
linked P nodes t = (t.some, λ n digit c leads. (t.edges n digit c leads).0)

-- digits that lead to a node are its path
pub path_along : (P : List ℕ → Type 0) (nodes : List Node) (t : IsTree P nodes) (p : List ℕ) (n m : ℕ)
    → walk nodes p n ≡ Some m → t.path m ≡ t.path n ++ p
path_along P nodes t [] n m is = (let same : n ≡ m = cc in ap t.path (sym same) ∙ sym (append-nil (t.path n)))
path_along P nodes t (d ∷ p) n m is =
    elim (child nodes n d) as
    (λ o. child nodes n d ≡ o → and_then o (λ c. walk nodes p c.0) ≡ Some m → t.path m ≡ t.path n ++ (d ∷ p)) [
      | None ↦ λ _ arrives. absurd (cc)
      | Some c ↦ λ leads arrives.
          path_along P nodes t p c.0 m arrives
          ∙ ap (λ q. q ++ p) (t.edges n d c leads).1
          ∙ append_assoc (t.path n) (d ∷ []) p
    ] refl is

pub path_of : (P : List ℕ → Type 0) (nodes : List Node) (t : IsTree P nodes) (p : List ℕ) (m : ℕ)
    → walk nodes p 0 ≡ Some m → t.path m ≡ p
path_of P nodes t p m is = path_along P nodes t p 0 m is ∙ ap (λ q. q ++ p) t.root

-- a use that follows from another
pub used_for : (P Q : List ℕ → Type 0) (nodes : List Node) → ((p : List ℕ) → P p → Q p) → IsTree P nodes
    → IsTree Q nodes
used_for P Q nodes follows t = record {
  path = t.path;
  root = t.root;
  edges = t.edges;
  used = λ n some within. follows (t.path n) (t.used n some within);
  some = t.some;
  ten = t.ten;
}

parent_within : (nodes : List Node) (m e : ℕ) (c : NodeNo) → child nodes m e ≡ Some c → m < length nodes
parent_within nodes m e c leads =
    elim (cases_lt m (length nodes)) [
      | inl within ↦ within
      | inr past ↦ absurd (let none : child nodes m e ≡ None = child_past nodes m e past in cc)
    ]

new_number : (k : ℕ) (c : NodeNo) (o : Option NodeNo) → o ≡ Some (record { 0 = k }) → o ≡ Some c → k ≡ c.0
new_number k c o new is = cc

old_edge : (P : List ℕ → Type 0) (nodes : List Node) (t : IsTree P nodes) (m e : ℕ) (c : NodeNo) (path : ℕ → List ℕ)
    → ((k : ℕ) → k < length nodes → path k ≡ t.path k) → (count : ℕ) → count ≡ length nodes + 1
    → child nodes m e ≡ Some c
    → (c.0 < count) × (path c.0 ≡ path m ++ e ∷ [])
old_edge P nodes t m e c path there count is leads =
    let edge = t.edges m e c leads in
    let from : m < length nodes = parent_within nodes m e c leads in
    (omega (arith, edge.0), there c.0 edge.0 ∙ edge.1 ∙ ap (λ q. q ++ e ∷ []) (sym (there m from)))

-- one node more
one_node : (P : List ℕ → Type 0) (nodes : List Node) (n d : ℕ) (p : List ℕ) → IsTree P nodes → n < length nodes → d < 10
    → child nodes n d ≡ None → walk nodes p 0 ≡ Some n → P (p ++ d ∷ []) → IsTree P (with_child nodes n d)
one_node P nodes n d p t h fits none leads is_used =
    let count = length-with_child nodes n d in
    let path : ℕ → List ℕ = λ k. cond (eqb k (length nodes)) (p ++ d ∷ []) (t.path k) in
    let here : path (length nodes) ≡ p ++ d ∷ [] =
    ap (λ b. cond b (p ++ d ∷ []) (t.path (length nodes))) (eq-eqb (length nodes) (length nodes) refl) in
    let there : (k : ℕ) → k < length nodes → path k ≡ t.path k =
    λ k l. ap (λ b. cond b (p ++ d ∷ []) (t.path k)) (ne_eqb k (length nodes) (λ is. absurd (omega arith))) in
    record {
      path = path;
      root = there 0 t.some ∙ t.root;
      edges = λ m e c is.
          elim (child_either nodes n d m e h (let ten = t.ten n h in omega arith)) [
            | inl at ↦
                (let number : length nodes ≡ c.0 =
                new_number (length nodes) c (child (with_child nodes n d) m e) at.2 is in (
                  omega arith,
                  ap path (sym number) ∙ here
                      ∙ ap (λ q. q ++ d ∷ []) (sym (path_of P nodes t p n leads))
                      ∙ ap (λ q. q ++ d ∷ []) (sym (there n h))
                      ∙ ap (λ k. path k ++ d ∷ []) (sym at.0)
                      ∙ ap (λ k. path m ++ k ∷ []) (sym at.1),
                ))
            | inr old ↦ old_edge P nodes t m e c path there (length (with_child nodes n d)) count (sym old ∙ is)
          ];
      used = λ k some within.
          elim (cases_eq k (length nodes)) [
            | inl is ↦ subst P (sym (ap path is ∙ here)) is_used
            | inr other ↦ subst P (sym (there k (omega arith))) (t.used k some (omega arith))
          ];
      some = omega arith;
      ten = ten_with_child nodes n d h t.ten;
    }

-- that digits start nothing at a node: the first of them leads nowhere
abbrev pub StartsNothing : List Node → ℕ → List ℕ → Type 0
StartsNothing nodes n digits = (d : ℕ) (ds : List ℕ) → digits ≡ d ∷ ds → child nodes n d ≡ None

-- what a tree is once digits lead on from a node
pub record Grown (P : List ℕ → Type 0) (nodes news : List Node) (p : List ℕ) (last count : ℕ) : Type 0 where
  pub tree : IsTree P news
  pub walked : walk news p 0 ≡ Some last
  pub kept : (q : List ℕ) → line_of news q ≡ line_of nodes q
  pub longer : length news ≡ length nodes + count

pub grow : (P : List ℕ → Type 0) (nodes : List Node) (n : ℕ) (p digits : List ℕ) → IsTree P nodes
    → walk nodes p 0 ≡ Some n
    → are_decimal digits ≡ true → StartsNothing nodes n digits → ((q r : List ℕ) → q ++ r ≡ p ++ digits → P q)
    → Grown P nodes (with_nodes nodes n digits) (p ++ digits) (last_node (length nodes) n digits) (length digits)
grow P nodes n p [] t leads decimal nothing uses = record {
  tree = t;
  walked = ap (λ q. walk nodes q 0) (append-nil p) ∙ leads;
  kept = λ q. refl;
  longer = omega arith;
}
grow P nodes n p (d ∷ digits) t leads decimal nothing uses =
    let parts : (leb d 9 ≡ true) × (are_decimal digits ≡ true) = and_parts (leb d 9) (are_decimal digits) decimal in
    let small : d ≤ 9 = leb-true d 9 parts.0 in
    let within : n < length nodes = walk_within nodes (linked P nodes t) p 0 n t.some leads in
    let none : child nodes n d ≡ None = nothing d digits refl in
    let fits : d < length (node_at nodes n).next = (let ten = t.ten n within in omega arith) in
    let t1 : IsTree P (with_child nodes n d) =
    one_node P nodes n d p t within (omega arith) none leads
    (uses (p ++ d ∷ []) digits (append_assoc p (d ∷ []) digits)) in
    let leads1 : walk (with_child nodes n d) (p ++ d ∷ []) 0 ≡ Some (length nodes) =
    walk_on (with_child nodes n d) p (d ∷ []) 0 (Some n) (walk_keeps nodes n d within none p 0 n leads)
    ∙ walk_one (with_child nodes n d) n d (Some (record { 0 = length nodes })) (child_new nodes n d within fits) in
    let rest : Grown P (with_child nodes n d) (with_nodes (with_child nodes n d) (length nodes) digits)
    ((p ++ d ∷ []) ++ digits)
    (last_node (length (with_child nodes n d)) (length nodes) digits) (length digits) =
    grow P (with_child nodes n d) (length nodes) (p ++ d ∷ []) digits t1 leads1 parts.1
    (λ e es _. new_leads_nowhere nodes n d e within)
    (λ q r is. uses q r (is ∙ append_assoc p (d ∷ []) digits)) in
    let count : length (with_child nodes n d) ≡ length nodes + 1 = length-with_child nodes n d in
    record {
      tree = rest.tree;
      walked =
          ap (λ q. walk (with_nodes (with_child nodes n d) (length nodes) digits) q 0)
          (sym (append_assoc p (d ∷ []) digits))
          ∙ rest.walked
          ∙ ap (λ k. Some (last_node k (length nodes) digits)) count;
      kept = λ q. rest.kept q ∙ value_keeps nodes n d within fits none q 0;
      longer = (let more = rest.longer in omega arith);
    }

-- a line at a node
at_lined : (nodes : List Node) (n : ℕ) (line : LineNo) → n < length nodes
    → node_at (with_line nodes n line) n ≡ record (node_at nodes n) { line = Some line }
at_lined nodes n line h = get_or-set_same nodes n _ no_node h

others_lined : (nodes : List Node) (n m : ℕ) (line : LineNo) → m ≢ n
    → node_at (with_line nodes n line) m ≡ node_at nodes m
others_lined nodes n m line apart = get_or-set_other nodes n m _ no_node apart

next_lined : (nodes : List Node) (n m : ℕ) (line : LineNo) → n < length nodes
    → (node_at (with_line nodes n line) m).next ≡ (node_at nodes m).next
next_lined nodes n m line h =
    elim (cases_eq m n) [
      | inl is ↦
          ap (λ k. (node_at (with_line nodes n line) k).next) is ∙ ap (λ node. node.next) (at_lined nodes n line h)
          ∙ ap (λ k. (node_at nodes k).next) (sym is)
      | inr other ↦ ap (λ node. node.next) (others_lined nodes n m line other)
    ]

child_lined : (nodes : List Node) (n m e : ℕ) (line : LineNo) → n < length nodes
    → child (with_line nodes n line) m e ≡ child nodes m e
child_lined nodes n m e line h = ap (λ next. get_or next e None) (next_lined nodes n m line h)

walk_lined : (nodes : List Node) (n : ℕ) (line : LineNo) → n < length nodes → (q : List ℕ) (m : ℕ)
    → walk (with_line nodes n line) q m ≡ walk nodes q m
walk_lined nodes n line h [] m = refl
walk_lined nodes n line h (e ∷ q) m =
    ap (λ o. and_then o (λ c. walk (with_line nodes n line) q c.0)) (child_lined nodes n m e line h)
    ∙ elim (child nodes m e) as
    (λ o. and_then o (λ c. walk (with_line nodes n line) q c.0) ≡ and_then o (λ c. walk nodes q c.0)) [
      | None ↦ refl
      | Some c ↦ walk_lined nodes n line h q c.0
    ]

pub tree_lined : (P : List ℕ → Type 0) (nodes : List Node) (n : ℕ) (line : LineNo) → n < length nodes → IsTree P nodes
    → IsTree P (with_line nodes n line)
tree_lined P nodes n line h t =
    let count : length (with_line nodes n line) ≡ length nodes = length-set nodes n _ in
    record {
      path = t.path;
      root = t.root;
      edges = λ m e c leads.
          (let edge = t.edges m e c (sym (child_lined nodes n m e line h) ∙ leads) in (omega (arith, edge.0), edge.1));
      used = λ m some within. t.used m some (omega arith);
      some = (let some = t.some in omega arith);
      ten = λ m within. ap length (next_lined nodes n m line h) ∙ t.ten m (omega arith);
    }

line_there : (nodes : List Node) (n m : ℕ) (line : LineNo) → n < length nodes → (b : Bool) → (b ≡ true → m ≡ n)
    → (m ≡ n → b ≡ true)
    → line_at (with_line nodes n line) m ≡ cond b (Some line.0) (line_at nodes m)
line_there nodes n m line h true is at =
    ap (λ k. line_at (with_line nodes n line) k) (is refl)
    ∙ ap (λ node. option_map (λ line. line.0) node.line) (at_lined nodes n line h)
line_there nodes n m line h false is at =
    ap (λ node. option_map (λ line. line.0) node.line)
    (others_lined nodes n m line (λ same. let wrong : false ≡ true = at same in absurd (cc)))

line_of_ends : (P : List ℕ → Type 0) (nodes : List Node) (t : IsTree P nodes) (n : ℕ) (prefix : List ℕ) (line : LineNo)
    → n < length nodes
    → walk nodes prefix 0 ≡ Some n → (q : List ℕ) (o : Option ℕ) → walk nodes q 0 ≡ o
    → and_then o (line_at (with_line nodes n line)) ≡ cond (same q prefix) (Some line.0) (and_then o (line_at nodes))
line_of_ends P nodes t n prefix line h leads q None is =
    sym (cond-false (same q prefix) (Some line.0) None (false_from_ne_true (same q prefix) (λ at.
    let here : walk nodes q 0 ≡ walk nodes prefix 0 = ap (λ p. walk nodes p 0) (same_is q prefix at) in cc)))
line_of_ends P nodes t n prefix line h leads q (Some m) is =
    line_there nodes n m line h (same q prefix)
    (λ at. let here : walk nodes q 0 ≡ walk nodes prefix 0 = ap (λ p. walk nodes p 0) (same_is q prefix at) in cc)
    (λ at.
    let here : q ≡ prefix = sym (path_of P nodes t q m is) ∙ ap t.path at ∙ path_of P nodes t prefix n leads in
    ap (λ p. same p prefix) here ∙ same_itself prefix)

-- the digits that lead to it have the line, and no others have another
pub line_of_lined : (P : List ℕ → Type 0) (nodes : List Node) (n : ℕ) (prefix : List ℕ) (line : LineNo)
    → IsTree P nodes → walk nodes prefix 0 ≡ Some n
    → (q : List ℕ) → line_of (with_line nodes n line) q ≡ cond (same q prefix) (Some line.0) (line_of nodes q)
line_of_lined P nodes n prefix line t leads q =
    let within : n < length nodes = walk_within nodes (linked P nodes t) prefix 0 n t.some leads in
    ap (λ o. and_then o (line_at (with_line nodes n line))) (walk_lined nodes n line within q 0)
    ∙ line_of_ends P nodes t n prefix line within leads q (walk nodes q 0) refl

nothing_leads : (o : Option NodeNo) (c : NodeNo) → o ≡ Some c → o ≡ None → ⊥
nothing_leads o c leads none = cc

root_leads_nowhere : (n d : ℕ) → child (new_node ∷ []) n d ≡ None
root_leads_nowhere n d = child_push [] n d ∙ child_past [] n d (omega arith)

root_ten : (n : ℕ) → n < 1 → length (node_at (new_node ∷ []) n).next ≡ 10
root_ten zero h = refl
root_ten (suc n) h = absurd (omega arith)

no_line : (q : List ℕ) → line_of (new_node ∷ []) q ≡ None
no_line [] = refl
no_line (d ∷ q) =
    ap (λ o. and_then (and_then o (λ c. walk (new_node ∷ []) q c.0)) (line_at (new_node ∷ []))) (root_leads_nowhere 0 d)

-- a root alone has no lines
pub no_lines : map_of (new_node ∷ []) ≡ empty
no_lines = collected_none (line_of (new_node ∷ [])) no_line

-- the root alone
pub root_alone : AreRoutes (new_node ∷ []) 0
root_alone = record {
  tree = record {
    path = λ _. [];
    root = refl;
    edges = λ n d c leads. absurd (nothing_leads (child (new_node ∷ []) n d) c leads (root_leads_nowhere n d));
    used = λ n some within. absurd (omega arith);
    some = omega arith;
    ten = λ n within. root_ten n within;
  };
  counted = ap len no_lines ∙ len-empty by_digits ℕ;
  most = omega arith;
  size = omega arith;
}
