-- Lines of a log that repeat.
use Rattle.std.specs.Prelude.{ℕ, List, Bool, ◌-◌, ◌&&◌, nat_eq, nat_lt, string_bytes}
use Rattle.std.specs.Cmp.Lexicographic.{pointwise}
use Rattle.log_repeats.specs.declared.Told.{Told}

-- how many seconds a line is not told again
abbrev pub minute : ℕ
minute = 60

-- how many lines are kept
abbrev pub most_lines : ℕ
most_lines = 64

-- it is the same line, told less than a minute before
abbrev pub is_told_lately : (line : List ℕ) → (second : ℕ) → Told → Bool
is_told_lately line second told = pointwise nat_eq (string_bytes told.line) line && nat_lt (second - told.second) minute
