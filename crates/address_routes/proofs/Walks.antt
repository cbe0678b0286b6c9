-- Walks along digits, and what a longer tree keeps of them.
use Rattle.std.proofs.Common.{◌≡◌, ◌≢◌, ◌⊎◌, inl, inr, ℕ, zero, suc, ◌+◌, ◌<◌, ◌≤◌, List, [], ◌∷◌, ◌++◌, length, get_or, take, replicate, Option, Some, None, refl, sym, ap, ◌∙◌, subst, arith, length-set, length-append}
use Rattle.std.specs.Option.{option_map, option_or}
use Rattle.std.proofs.lemmas.List.{take_more, get_or-set_same, get_or-set_other, get_or_append_left, get_or_past}
use Rattle.std.proofs.lemmas.Bool.{cases_eq}
use Rattle.address_routes.specs.declared.line_no.LineNo.{LineNo}
use Rattle.address_routes.specs.declared.tree.Node.{Node}
use Rattle.address_routes.specs.declared.tree.NodeNo.{NodeNo}
use Rattle.address_routes.specs.Tree.{and_then, new_node, no_node, node_at, child, walk, line_at, leading, with_child, IsLinked, line_to}
use Rattle.address_routes.specs.Routes.{or_else}

pub walk-append : (nodes : List Node) (p q : List ℕ) (n : ℕ)
    → walk nodes (p ++ q) n ≡ and_then (walk nodes p n) (walk nodes q)
walk-append nodes [] q n = refl
walk-append nodes (d ∷ p) q n =
    elim (child nodes n d) as (λ c. and_then c (λ c. walk nodes (p ++ q) c.0)
    ≡ and_then (and_then c (λ c. walk nodes p c.0)) (walk nodes q)) [
      | None ↦ refl
      | Some c ↦ walk-append nodes p q c.0
    ]

-- where the first digits lead, the others go on from
pub walk_on : (nodes : List Node) (p q : List ℕ) (n : ℕ) (o : Option ℕ) → walk nodes p n ≡ o
    → walk nodes (p ++ q) n ≡ and_then o (walk nodes q)
walk_on nodes p q n o is = walk-append nodes p q n ∙ ap (λ o. and_then o (walk nodes q)) is

-- one digit
pub walk_one : (nodes : List Node) (n d : ℕ) (o : Option NodeNo) → child nodes n d ≡ o
    → walk nodes (d ∷ []) n ≡ option_map (λ c. c.0) o
walk_one nodes n d None is = ap (λ o. and_then o (λ c. Some c.0)) is
walk_one nodes n d (Some c) is = ap (λ o. and_then o (λ c. Some c.0)) is

no_child : (k e : ℕ) → get_or (replicate {A = Option NodeNo} k None) e None ≡ None
no_child zero e = refl
no_child (suc k) zero = refl
no_child (suc k) (suc e) = no_child k e

pub child_push : (nodes : List Node) (m e : ℕ) → child (nodes ++ new_node ∷ []) m e ≡ child nodes m e
child_push [] zero e = no_child 10 e
child_push [] (suc m) e = refl
child_push (x ∷ nodes) zero e = refl
child_push (x ∷ nodes) (suc m) e = child_push nodes m e

line_push : (nodes : List Node) (m : ℕ) → (node_at (nodes ++ new_node ∷ []) m).line ≡ (node_at nodes m).line
line_push [] zero = refl
line_push [] (suc m) = refl
line_push (x ∷ nodes) zero = refl
line_push (x ∷ nodes) (suc m) = line_push nodes m

-- a node that is not there leads nowhere
pub child_past : (nodes : List Node) (m e : ℕ) → length nodes ≤ m → child nodes m e ≡ None
child_past nodes m e h = ap (λ node. get_or node.next e None) (get_or_past nodes m no_node h)

pub length-with_child : (nodes : List Node) (n d : ℕ) → length (with_child nodes n d) ≡ length nodes + 1
length-with_child nodes n d = length-set (nodes ++ new_node ∷ []) n _ ∙ length-append nodes (new_node ∷ [])

push_at : (nodes : List Node) (n : ℕ) → n < length nodes → node_at (nodes ++ new_node ∷ []) n ≡ node_at nodes n
push_at nodes n h = get_or_append_left nodes (new_node ∷ []) no_node n h

longer : (nodes : List Node) (n : ℕ) → n < length nodes → n < length (nodes ++ new_node ∷ [])
longer nodes n h =
    (let more : length (nodes ++ new_node ∷ []) ≡ length nodes + 1 = length-append nodes (new_node ∷ []) in omega arith)

at_parent : (nodes : List Node) (n d : ℕ) → n < length nodes
    → node_at (with_child nodes n d) n ≡ leading (node_at (nodes ++ new_node ∷ []) n) d (length nodes)
at_parent nodes n d h = get_or-set_same (nodes ++ new_node ∷ []) n _ no_node (longer nodes n h)

at_others : (nodes : List Node) (n d m : ℕ) → m ≢ n
    → node_at (with_child nodes n d) m ≡ node_at (nodes ++ new_node ∷ []) m
at_others nodes n d m apart = get_or-set_other (nodes ++ new_node ∷ []) n m _ no_node apart

-- the digit leads to the new node
pub child_new : (nodes : List Node) (n d : ℕ) → n < length nodes → d < length (node_at nodes n).next
    → child (with_child nodes n d) n d ≡ Some (record { 0 = length nodes })
child_new nodes n d h fits =
    ap (λ node. get_or node.next d None) (at_parent nodes n d h)
    ∙ get_or-set_same (node_at (nodes ++ new_node ∷ []) n).next d _ None
    (let P : Node → Type 0 = λ node. d < length node.next in subst P (sym (push_at nodes n h)) fits)

other_node : (nodes : List Node) (n d m e : ℕ) → m ≢ n → child (with_child nodes n d) m e ≡ child nodes m e
other_node nodes n d m e apart = ap (λ node. get_or node.next e None) (at_others nodes n d m apart)
    ∙ child_push nodes m e

-- and every other digit of every node leads where it led
pub child_other : (nodes : List Node) (n d m e : ℕ) → n < length nodes → (m ≢ n) ⊎ (e ≢ d)
    → child (with_child nodes n d) m e ≡ child nodes m e
child_other nodes n d m e h (inl apart) = other_node nodes n d m e apart
child_other nodes n d m e h (inr apart) =
    elim (cases_eq m n) [
      | inl same ↦
          ap (λ k. child (with_child nodes n d) k e) same
          ∙ ap (λ node. get_or node.next e None) (at_parent nodes n d h)
          ∙ get_or-set_other (node_at (nodes ++ new_node ∷ []) n).next d e _ None apart
          ∙ child_push nodes n e
          ∙ ap (λ k. child nodes k e) (sym same)
      | inr other ↦ other_node nodes n d m e other
    ]

-- no node has another line
pub line_with_child : (nodes : List Node) (n d m : ℕ) → n < length nodes
    → (node_at (with_child nodes n d) m).line ≡ (node_at nodes m).line
line_with_child nodes n d m h =
    elim (cases_eq m n) [
      | inl same ↦
          ap (λ k. (node_at (with_child nodes n d) k).line) same
          ∙ ap (λ node. node.line) (at_parent nodes n d h)
          ∙ line_push nodes n
          ∙ ap (λ k. (node_at nodes k).line) (sym same)
      | inr other ↦ ap (λ node. node.line) (at_others nodes n d m other) ∙ line_push nodes m
    ]

pushed_ten : (nodes : List Node) → ((m : ℕ) → m < length nodes → length (node_at nodes m).next ≡ 10)
    → (m : ℕ) → m < length nodes + 1 → length (node_at (nodes ++ new_node ∷ []) m).next ≡ 10
pushed_ten [] ten zero h = refl
pushed_ten [] ten (suc m) h = absurd (omega arith)
pushed_ten (x ∷ nodes) ten zero h = ten 0 (omega arith)
pushed_ten (x ∷ nodes) ten (suc m) h = pushed_ten nodes (λ k l. ten (suc k) (omega arith)) m (omega arith)

pub ten_with_child : (nodes : List Node) (n d : ℕ) → n < length nodes
    → ((m : ℕ) → m < length nodes → length (node_at nodes m).next ≡ 10)
    → (m : ℕ) → m < length (with_child nodes n d) → length (node_at (with_child nodes n d) m).next ≡ 10
ten_with_child nodes n d h ten m within =
    elim (cases_eq m n) [
      | inl same ↦
          ap (λ k. length (node_at (with_child nodes n d) k).next) same
          ∙ ap (λ node. length node.next) (at_parent nodes n d h)
          ∙ length-set (node_at (nodes ++ new_node ∷ []) n).next d _
          ∙ ap (λ node. length node.next) (push_at nodes n h)
          ∙ ten n h
      | inr other ↦
          ap (λ node. length node.next) (at_others nodes n d m other)
          ∙ pushed_ten nodes ten m
          (let more : length (with_child nodes n d) ≡ length nodes + 1 = length-with_child nodes n d in omega arith)
    ]

-- which of the digits it is
which : (m n e d : ℕ) → ((m ≡ n) × (e ≡ d)) ⊎ ((m ≢ n) ⊎ (e ≢ d))
which m n e d =
    elim (cases_eq m n) [
      | inl same ↦ elim (cases_eq e d) [ inl also ↦ inl (same, also) | inr apart ↦ inr (inr apart) ]
      | inr apart ↦ inr (inl apart)
    ]

-- what a digit leads to: the new node, or what it led to
pub child_either : (nodes : List Node) (n d m e : ℕ) → n < length nodes → d < length (node_at nodes n).next
    → ((m ≡ n) × (e ≡ d) × (child (with_child nodes n d) m e ≡ Some (record { 0 = length nodes })))
    ⊎ (child (with_child nodes n d) m e ≡ child nodes m e)
child_either nodes n d m e h fits =
    elim (which m n e d) [
      | inl at ↦ inl (
        at.0,
        at.1,
        ap (λ k. child (with_child nodes n d) k e) at.0 ∙ ap (λ k. child (with_child nodes n d) n k) at.1
            ∙ child_new nodes n d h fits,
      )
      | inr apart ↦ inr (child_other nodes n d m e h apart)
    ]

-- a digit that leads somewhere leads there still
child_keeps : (nodes : List Node) (n d : ℕ) → n < length nodes → child nodes n d ≡ None → (m e : ℕ) (c : NodeNo)
    → child nodes m e ≡ Some c → child (with_child nodes n d) m e ≡ Some c
child_keeps nodes n d h none m e c leads =
    elim (which m n e d) [
      | inl at ↦
          (let also : child nodes m e ≡ child nodes n d = ap (λ k. child nodes k e) at.0 ∙ ap (child nodes n) at.1 in
          absurd (cc))
      | inr apart ↦ child_other nodes n d m e h apart ∙ leads
    ]

-- a walk that arrives arrives still
pub walk_keeps : (nodes : List Node) (n d : ℕ) → n < length nodes → child nodes n d ≡ None → (q : List ℕ) (m k : ℕ)
    → walk nodes q m ≡ Some k → walk (with_child nodes n d) q m ≡ Some k
walk_keeps nodes n d h none [] m k is = is
walk_keeps nodes n d h none (e ∷ q) m k is =
    elim (child nodes m e) as (λ o. child nodes m e ≡ o → and_then o (λ c. walk nodes q c.0) ≡ Some k
    → and_then (child (with_child nodes n d) m e) (λ c. walk (with_child nodes n d) q c.0) ≡ Some k) [
      | None ↦ λ _ arrives. absurd (cc)
      | Some c ↦ λ leads arrives.
          ap (λ o. and_then o (λ c. walk (with_child nodes n d) q c.0)) (child_keeps nodes n d h none m e c leads)
          ∙ walk_keeps nodes n d h none q c.0 k arrives
    ] refl is

-- the new node leads nowhere
pub new_leads_nowhere : (nodes : List Node) (n d e : ℕ) → n < length nodes
    → child (with_child nodes n d) (length nodes) e ≡ None
new_leads_nowhere nodes n d e h =
    child_other nodes n d (length nodes) e h (inl (λ same. absurd (omega arith)))
    ∙ child_past nodes (length nodes) e (omega arith)

from_new : (nodes : List Node) (n d : ℕ) (q : List ℕ) → n < length nodes
    → and_then (walk (with_child nodes n d) q (length nodes)) (line_at (with_child nodes n d)) ≡ None
from_new nodes n d [] h =
    ap (option_map (λ line. line.0))
    (line_with_child nodes n d (length nodes) h
    ∙ ap (λ node. node.line) (get_or_past nodes (length nodes) no_node (omega arith)))
from_new nodes n d (e ∷ q) h =
    ap (λ o. and_then (and_then o (λ c. walk (with_child nodes n d) q c.0)) (line_at (with_child nodes n d)))
    (new_leads_nowhere nodes n d e h)

-- from any node on, digits lead to the line that they led to
pub value_keeps : (nodes : List Node) (n d : ℕ) → n < length nodes → d < length (node_at nodes n).next
    → child nodes n d ≡ None
    → (q : List ℕ) (m : ℕ)
    → and_then (walk (with_child nodes n d) q m) (line_at (with_child nodes n d))
    ≡ and_then (walk nodes q m) (line_at nodes)
value_keeps nodes n d h fits none [] m = ap (option_map (λ line. line.0)) (line_with_child nodes n d m h)
value_keeps nodes n d h fits none (e ∷ q) m =
    let ends : List Node → Option NodeNo → Option ℕ =
    λ nodes o. and_then (and_then o (λ c. walk nodes q c.0)) (line_at nodes) in
    elim (child_either nodes n d m e h fits) [
      | inl at ↦
          ap (ends (with_child nodes n d)) at.2
          ∙ from_new nodes n d q h
          ∙ sym (ap (ends nodes) (ap (λ k. child nodes k e) at.0 ∙ ap (child nodes n) at.1 ∙ none))
      | inr same ↦
          ap (ends (with_child nodes n d)) same
          ∙ elim (child nodes m e) as (λ o. ends (with_child nodes n d) o ≡ ends nodes o) [
            | None ↦ refl
            | Some c ↦ value_keeps nodes n d h fits none q c.0
          ]
    ]

-- a walk ends at a node that is there
pub walk_within : (nodes : List Node) → IsLinked nodes → (p : List ℕ) (n m : ℕ) → n < length nodes
    → walk nodes p n ≡ Some m → m < length nodes
walk_within nodes linked [] n m h is = (let same : n ≡ m = cc in omega arith)
walk_within nodes linked (d ∷ p) n m h is =
    elim (child nodes n d) as
    (λ o. child nodes n d ≡ o → and_then o (λ c. walk nodes p c.0) ≡ Some m → m < length nodes) [
      | None ↦ λ _ arrives. absurd (cc)
      | Some c ↦ λ leads arrives. walk_within nodes linked p c.0 m (linked.1 n d c leads) arrives
    ] refl is

-- one digit further
pub walk_further : (nodes : List Node) (digits : List ℕ) (i n : ℕ) (c : NodeNo) → i < length digits
    → walk nodes (take i digits) 0 ≡ Some n → child nodes n (get_or digits i 0) ≡ Some c
    → walk nodes (take (i + 1) digits) 0 ≡ Some c.0
walk_further nodes digits i n c h reached leads =
    ap (λ p. walk nodes p 0) (take_more digits i 0 h)
    ∙ walk_on nodes (take i digits) (get_or digits i 0 ∷ []) 0 (Some n) reached
    ∙ walk_one nodes n (get_or digits i 0) (Some c) leads

either : (a b : Option LineNo)
    → option_map (λ line. line.0) (option_or a b)
    ≡ or_else (option_map (λ line. line.0) a) (option_map (λ line. line.0) b)
either None b = refl
either (Some line) b = refl

-- the last line on the way, one digit further
pub line_further : (nodes : List Node) (digits : List ℕ) (i m : ℕ) (here before : Option LineNo)
    → walk nodes (take (i + 1) digits) 0 ≡ Some m
    → here ≡ (node_at nodes m).line → option_map (λ line. line.0) before ≡ line_to i nodes digits
    → option_map (λ line. line.0) (option_or here before) ≡ line_to (i + 1) nodes digits
line_further nodes digits i m here before reached is so_far =
    let next : i + 1 ≡ suc i = omega arith in
    either here before
    ∙ ap (or_else (option_map (λ line. line.0) here)) so_far
    ∙ ap (λ o. or_else o (line_to i nodes digits))
    (ap (option_map (λ line. line.0)) is
    ∙ sym (ap (λ o. and_then o (line_at nodes)) (ap (λ k. walk nodes (take k digits) 0) (sym next) ∙ reached)))
    ∙ ap (λ k. line_to k nodes digits) (sym next)
