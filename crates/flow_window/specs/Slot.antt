-- A place for the octets of one buffer.
use Rattle.std.specs.Prelude.{ℕ, List, [], Option, Some, None}

pub record Slot : Type 0 where
  pub size : ℕ  -- the most octets that it holds
  pub content : Option (List ℕ)  -- what it holds, if it is in use

-- the octets that it holds, none where it is not in use
abbrev pub octets_in : Option (List ℕ) → List ℕ
octets_in None = []
octets_in (Some octets) = octets
