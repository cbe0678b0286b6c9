-- Ticks that pass in a network, at each node by a number of its own.
use Rattle.std.specs.Prelude.{ℕ, suc, List, [], ◌∷◌}
use Rattle.net_events.specs.Network.{NetNode, Network, elapsed_node}

-- each element is changed by its place
abbrev pub by_place : {A B : Type 0} → (ℕ → A → B) → List A → List B
by_place change [] = []
by_place change (x ∷ xs) = change 0 x ∷ by_place (λ place. change (suc place)) xs

abbrev pub nodes_elapsed : (ticks : ℕ → ℕ) → List NetNode → List NetNode
nodes_elapsed ticks nodes = by_place (λ place n. elapsed_node (ticks place) n) nodes

abbrev pub elapsed_by : (ticks : ℕ → ℕ) → Network → Network
elapsed_by ticks s = record s { nodes = nodes_elapsed ticks s.nodes }
