-- The packet that waits for the link.
use Rattle.std.specs.Prelude.{◌≤◌, ℕ, List, [], ◌∷◌, length, Option, Some, None}
use Rattle.arrayvec.specs.ArrayVec.{ArrayVec}
use Rattle.lapb.specs.Machine.{Octets}

abbrev pub waiting_in : Option (ArrayVec ℕ) → List Octets
waiting_in None = []
waiting_in (Some packet) = packet.items ∷ []

-- a packet that waits fits into an I frame
abbrev pub WaitsShort : Option (ArrayVec ℕ) → (info : ℕ) → Type 0
WaitsShort None info = Unit {0}
WaitsShort (Some packet) info = length packet.items ≤ info
