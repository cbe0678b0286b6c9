-- The packets that a link did not see acknowledged, and the buffers of a pool that it holds.
use Rattle.std.specs.Prelude.{ℕ, zero, suc, ◌+◌, ◌%◌, List, [], ◌∷◌, map, slice_get, Option, Some}
use Rattle.flow_window.specs.Pool.{Buffer}
use Rattle.lapb.specs.Machine as machine
use Rattle.lapb.specs.Machine.{Octets}

pub record Queue : Type 0 where
  pub packets : List Octets  -- offered and not acknowledged, oldest first
  pub held : List Buffer  -- the buffers that they lie in, behind those of packets that were given up

-- a link with the buffers that it holds
pub record Link : Type 0 where
  pub link : machine.Link
  pub held : List Buffer

abbrev pub contents : List Buffer → List Octets
contents held = map (λ b. b.octets) held

-- how many places a queue has, one behind the other and the first behind the last
abbrev pub most_places : ℕ
most_places = 8

-- in front of other buffers, the one that lies in a place
abbrev pub found : Option (Option Buffer) → List Buffer → List Buffer
found (Some (Some b)) bs = b ∷ bs
found _ bs = bs

-- the buffers that lie in so many places from one on
abbrev pub around : List (Option Buffer) → (first count : ℕ) → List Buffer
around places first zero = []
around places first (suc count) = found (slice_get places (first % most_places)) (around places (first + 1) count)

abbrev pub IsTaken : Option (Option Buffer) → Type 0
IsTaken (Some (Some b)) = Unit {0}
IsTaken _ = ⊥

-- none of so many places from one on is empty
abbrev pub AreTaken : List (Option Buffer) → (first count : ℕ) → Type 0
AreTaken places first zero = Unit {0}
AreTaken places first (suc count) = IsTaken (slice_get places (first % most_places)) × AreTaken places (first + 1) count
