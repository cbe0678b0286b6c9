-- A pool of buffers: a map from the numbers of the buffers in use to the octets that they hold.
use Rattle.std.specs.Prelude.{◌≡◌, ◌≤◌, ◌+◌, ℕ, List, [], ◌∷◌, length, Option, Some, None, slice_get}

pub record Pool : Type 0 where
  pub size : ℕ  -- the most octets that a buffer holds
  pub places : List (Option (List ℕ))  -- by number: the octets of a buffer in use

-- a buffer that was given: its number, and the octets that were put into it
pub record Buffer : Type 0 where
  pub number : ℕ
  pub octets : List ℕ

-- the buffer is in use and holds its octets
abbrev pub IsIn : Buffer → Pool → Type 0
IsIn b pool = slice_get pool.places b.number ≡ Some (Some b.octets)

-- ---- sums over buffers: a weight of 1 for one buffer and 0 for all others tells whether it is there

abbrev pub weight : (Buffer → ℕ) → List Buffer → ℕ
weight w [] = 0
weight w (b ∷ bs) = w b + weight w bs

-- of one place, by its number
abbrev pub place_weight : (Buffer → ℕ) → ℕ → Option (List ℕ) → ℕ
place_weight w number None = 0
place_weight w number (Some octets) = w (record { number = number; octets = octets })

-- of the places from this number on
abbrev pub weight_from : (Buffer → ℕ) → ℕ → List (Option (List ℕ)) → ℕ
weight_from w number [] = 0
weight_from w number (place ∷ places) = place_weight w number place + weight_from w (number + 1) places

-- over all buffers in use
abbrev pub pooled : (Buffer → ℕ) → Pool → ℕ
pooled w pool = weight_from w 0 pool.places

-- how many buffers are in use
abbrev pub in_use : Pool → ℕ
in_use pool = pooled (λ _. 1) pool

-- ---- who holds which buffers

-- the buffers that are held are in use, each once
abbrev pub Holds : Pool → List Buffer → Type 0
Holds pool held = (w : Buffer → ℕ) → weight w held ≤ pooled w pool

-- From one pool and what a holder holds of it to another: the buffers that came into use are held now, those that were
-- given up are not, and all others stay as they are.
pub record Balances (before : Pool) (held : List Buffer) (after : Pool) (holds : List Buffer) : Type 0 where
  pub size : after.size ≡ before.size
  pub places : length after.places ≡ length before.places
  pub weights : (w : Buffer → ℕ) → pooled w after + weight w held ≡ pooled w before + weight w holds
