-- Numbers in octets.
use Rattle.std.specs.Prelude.{ℕ, ◌+◌, ◌*◌, Option, Some, None}

-- the number of two octets, the high one first, if both are there
abbrev pub number_of : (high low : Option ℕ) → Option ℕ
number_of (Some high) (Some low) = Some (high * 256 + low)
number_of _ _ = None
