-- How much a ring of octets holds.
use Rattle.std.specs.Prelude.{ℕ}

abbrev pub most_octets : ℕ
most_octets = 65536
