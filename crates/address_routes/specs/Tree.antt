-- Lists of nodes as a tree of digits.
use Rattle.std.specs.Prelude.{◌≡◌, ℕ, zero, suc, ◌<◌, ◌+◌, List, [], ◌∷◌, ◌++◌, length, get_or, set, take, replicate}
use Rattle.std.specs.Prelude.{Option, Some, None}
use Rattle.std.specs.Option.{option_map}
use Rattle.address_routes.specs.declared.line_no.LineNo.{LineNo}
use Rattle.address_routes.specs.declared.tree.Node.{Node}
use Rattle.address_routes.specs.declared.tree.NodeNo.{NodeNo}
use Rattle.address_routes.specs.Routes.{or_else}

-- what comes of a value, if there is one
abbrev pub and_then : {A B : Type 0} → Option A → (A → Option B) → Option B
and_then None next = None
and_then (Some value) next = next value

-- a node that leads nowhere and has no line
abbrev pub new_node : Node
new_node = record { next = replicate 10 None; line = None }

-- what stands for a node that is not there
abbrev pub no_node : Node
no_node = record { next = []; line = None }

abbrev pub node_at : List Node → ℕ → Node
node_at nodes n = get_or nodes n no_node

-- the node that a digit leads to
abbrev pub child : List Node → ℕ → ℕ → Option NodeNo
child nodes n digit = get_or (node_at nodes n).next digit None

-- the node that digits lead to, from a node on
abbrev pub walk : List Node → List ℕ → ℕ → Option ℕ
walk nodes [] n = Some n
walk nodes (digit ∷ digits) n = and_then (child nodes n digit) (λ c. walk nodes digits c.0)

-- the line of a node
abbrev pub line_at : List Node → ℕ → Option ℕ
line_at nodes n = option_map (λ line. line.0) (node_at nodes n).line

-- the line of the node that digits lead to from the root
abbrev pub line_of : List Node → List ℕ → Option ℕ
line_of nodes digits = and_then (walk nodes digits 0) (line_at nodes)

-- the line of the last node that has one, on the way of so many digits
abbrev pub line_to : ℕ → List Node → List ℕ → Option ℕ
line_to zero nodes digits = None
line_to (suc n) nodes digits = or_else (line_of nodes (take (suc n) digits)) (line_to n nodes digits)

-- each digit leads to a node that is there
abbrev pub IsLinked : List Node → Type 0
IsLinked nodes = (0 < length nodes) × ((n digit : ℕ) (c : NodeNo) → child nodes n digit ≡ Some c → c.0 < length nodes)

-- the node whose digit leads to another
abbrev pub leading : Node → ℕ → ℕ → Node
leading node digit c = record node { next = set node.next digit (Some (record { 0 = c })) }

-- a new node behind the others, to which the digit leads
abbrev pub with_child : List Node → ℕ → ℕ → List Node
with_child nodes n digit =
    set (nodes ++ new_node ∷ []) n (leading (node_at (nodes ++ new_node ∷ []) n) digit (length nodes))

-- a new node for each of the digits, from a node on
abbrev pub with_nodes : List Node → ℕ → List ℕ → List Node
with_nodes nodes n [] = nodes
with_nodes nodes n (digit ∷ digits) = with_nodes (with_child nodes n digit) (length nodes) digits

-- the last of them, where so many nodes were there
abbrev pub last_node : ℕ → ℕ → List ℕ → ℕ
last_node count n [] = n
last_node count n (digit ∷ digits) = last_node (count + 1) count digits

-- with a line at a node
abbrev pub with_line : List Node → ℕ → LineNo → List Node
with_line nodes n line = set nodes n (record (node_at nodes n) { line = Some line })
