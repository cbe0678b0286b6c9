-- How deep a status nests as JSON.
use Rattle.std.proofs.Common.{ℕ, ◌≤◌, List, [], ◌∷◌, Option, Some, None, map, arith, lit≤}
use Rattle.serde_json.specs.Data.{Data, depth, items_depth}
use Rattle.serde_json.specs.View.{items_of}
use Rattle.status_texts.specs.declared.status.CallOctets.{CallOctets}
use Rattle.status_texts.specs.declared.status.CallLine.{CallLine}
use Rattle.status_texts.specs.declared.status.Status.{Status}
use Rattle.status_pages.specs.Data.{count_data, node_data, line_data, octets_data, call_data, port_data, status_data}

-- no item nests deeper than n
pub items_depth-map : {A : Type 0} (f : A → Data) (n : ℕ) → ((a : A) → depth (f a) ≤ n) → (xs : List A)
    → items_depth (items_of (map f xs)) ≤ n
items_depth-map f n within [] = omega arith
items_depth-map f n within (a ∷ xs) = omega (arith, within a, items_depth-map f n within xs)

numbers : (ns : List ℕ) → items_depth (items_of (map count_data ns)) ≤ 0
numbers ns = items_depth-map count_data 0 (λ n. lit≤ tt) ns

octets : (o : Option CallOctets) → depth (octets_data o) ≤ 1
octets None = lit≤ tt
octets (Some o) = lit≤ tt

call : (c : CallLine) → depth (call_data c) ≤ 2
call c = omega (arith, octets c.octets, numbers c.over.items)

pub status_depth : (s : Status) → depth (status_data s) ≤ 127
status_depth s = omega (
  arith,
  items_depth-map call_data 2 call s.calls.items,
  items_depth-map line_data 1 (λ l. lit≤ tt) s.lines.items,
  items_depth-map node_data 1 (λ n. lit≤ tt) s.nodes.items,
  items_depth-map port_data 1 (λ p. lit≤ tt) s.ports.items,
)
