-- What came of a request.
use Rattle.std.specs.Prelude.{ℕ, List}

-- how many ticks a request may take
abbrev pub most_ticks : ℕ
most_ticks = 100

-- what came, and how many ticks are left
pub record Heard : Type 0 where
  pub octets : List ℕ
  pub left : ℕ
