-- The digits of an address that may be missing.
use Rattle.std.specs.Prelude.{ℕ, List, [], Option, Some, None}

abbrev pub digits_or_none : Option (List ℕ) → List ℕ
digits_or_none None = []
digits_or_none (Some digits) = digits
