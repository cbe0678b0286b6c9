-- What is at a place of a list whose elements are changed by their places, as nodes are when ticks pass at each by a
-- number of its own.
use Rattle.std.proofs.Common.{◌≡◌, ℕ, zero, suc, List, [], ◌∷◌, length, map, Some, refl, sym, ap}
use Rattle.std.specs.Prelude.{slice_get}
use Rattle.std.specs.Option.{option_map}
use Rattle.std.proofs.lemmas.Option.{same_Some, none-some}
use Rattle.net_events.specs.Network.{NetNode, Network, elapsed_node, all_elapsed}
use Rattle.network_laws.specs.PlacedTime.{by_place, nodes_elapsed, elapsed_by}

pub by_place_at : {A B : Type 0} (change : ℕ → A → B) (xs : List A) (place : ℕ) → slice_get (by_place change xs) place ≡ option_map (change place) (slice_get xs place)
by_place_at change [] place = refl
by_place_at change (x ∷ xs) zero = refl
by_place_at change (x ∷ xs) (suc place) = by_place_at (λ at. change (suc at)) xs place

pub by_place_there : {A B : Type 0} (change : ℕ → A → B) (xs : List A) (place : ℕ) (x : A) → slice_get xs place ≡ Some x → slice_get (by_place change xs) place ≡ Some (change place x)
by_place_there change [] place x e = absurd (none-some x e)
by_place_there change (y ∷ xs) zero x e = ap (λ z. Some (change 0 z)) (same_Some y x e)
by_place_there change (y ∷ xs) (suc place) x e = by_place_there (λ at. change (suc at)) xs place x e

pub was_by_place : {A B : Type 0} (change : ℕ → A → B) (xs : List A) (place : ℕ) (y : B) → slice_get (by_place change xs) place ≡ Some y
    → (x : A) × (slice_get xs place ≡ Some x) × (y ≡ change place x)
was_by_place change [] place y e = absurd (none-some y e)
was_by_place change (x ∷ xs) zero y e = (x, refl, sym (same_Some (change 0 x) y e))
was_by_place change (x ∷ xs) (suc place) y e = was_by_place (λ at. change (suc at)) xs place y e

pub length-by_place : {A B : Type 0} (change : ℕ → A → B) (xs : List A) → length (by_place change xs) ≡ length xs
length-by_place change [] = refl
length-by_place change (x ∷ xs) = ap suc (length-by_place (λ at. change (suc at)) xs)

-- ---- ticks

abbrev pub elapsed_there : (ticks : ℕ → ℕ) (nodes : List NetNode) (place : ℕ) (n : NetNode) → slice_get nodes place ≡ Some n → slice_get (nodes_elapsed ticks nodes) place ≡ Some (elapsed_node (ticks place) n)
elapsed_there ticks nodes place n e = by_place_there (λ at m. elapsed_node (ticks at) m) nodes place n e

abbrev pub was_there : (ticks : ℕ → ℕ) (nodes : List NetNode) (place : ℕ) (m : NetNode) → slice_get (nodes_elapsed ticks nodes) place ≡ Some m
    → (n : NetNode) × (slice_get nodes place ≡ Some n) × (m ≡ elapsed_node (ticks place) n)
was_there ticks nodes place m e = was_by_place (λ at n. elapsed_node (ticks at) n) nodes place m e

abbrev pub length-nodes_elapsed : (ticks : ℕ → ℕ) (nodes : List NetNode) → length (nodes_elapsed ticks nodes) ≡ length nodes
length-nodes_elapsed ticks nodes = length-by_place (λ at n. elapsed_node (ticks at) n) nodes

-- as many at each
nodes_alike : (ticks : ℕ) (nodes : List NetNode) → nodes_elapsed (λ place. ticks) nodes ≡ map (elapsed_node ticks) nodes
nodes_alike ticks [] = refl
nodes_alike ticks (n ∷ nodes) = ap (λ (ns : List NetNode). elapsed_node ticks n ∷ ns) (nodes_alike ticks nodes)

pub all_alike : (ticks : ℕ) (s : Network) → elapsed_by (λ place. ticks) s ≡ all_elapsed ticks s
all_alike ticks s = ap (λ (ns : List NetNode). record s { nodes = ns }) (nodes_alike ticks s.nodes)
