-- How a count of packets grows.
use Rattle.std.specs.Prelude.{ℕ, ◌+◌, nat_le, if◌then◌else◌}

-- a count with n more, where it is of so many; what would pass further is not counted
abbrev pub counted : (all count n : ℕ) → ℕ
counted all count n = if nat_le (count + n) all then count + n else count
