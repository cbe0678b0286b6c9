-- What contracts see of the code's pool, and what always holds of it.
use Rattle.std.specs.Prelude.{◌≡◌, ◌≤◌, ◌+◌, ℕ, List, [], ◌∷◌, length, map, Option, Some, None}
use Rattle.std.specs.List.{All}
use Rattle.std.specs.Vec.{vec_capacity}
use Rattle.flow_window.specs.Pool.{Pool}
use Rattle.flow_window.specs.Slot.{Slot}
use Rattle.flow_window.specs.declared.pool.Pool.TheInside.{Inside}

abbrev pub contents : List Slot → List (Option (List ℕ))
contents slots = map (λ s. s.content) slots

abbrev pub pool_of : Inside → Pool
pool_of a = record { size = a.size; places = contents a.slots.items }

-- a sum over numbers
abbrev pub listed : (ℕ → ℕ) → List ℕ → ℕ
listed w [] = 0
listed w (n ∷ ns) = w n + listed w ns

-- of one place that is not in use, by its number
abbrev pub spare_weight : (ℕ → ℕ) → ℕ → Option (List ℕ) → ℕ
spare_weight w number None = w number
spare_weight w number (Some octets) = 0

-- over the places from this number on that are not in use
abbrev pub spare_from : (ℕ → ℕ) → ℕ → List (Option (List ℕ)) → ℕ
spare_from w number [] = 0
spare_from w number (place ∷ places) = spare_weight w number place + spare_from w (number + 1) places

-- the numbers are those of the places not in use, each once
abbrev pub AreSpare : List ℕ → List (Option (List ℕ)) → Type 0
AreSpare numbers places = (w : ℕ → ℕ) → listed w numbers ≡ spare_from w 0 places

pub record IsPool (a : Inside) : Type 0 where
  pub sizes : All (λ s. s.size ≡ a.size) a.slots.items
  pub spare : AreSpare a.spare.items (contents a.slots.items)
  pub room : length a.slots.items ≤ vec_capacity a.spare
