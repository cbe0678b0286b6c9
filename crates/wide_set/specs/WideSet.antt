-- Sets of numbers that may be many: by parts of 32 numbers each.
use Rattle.std.specs.Prelude.{ℕ, ◌*◌, ◌/◌, ◌%◌, Bool, true, List, length, Option, Some, None, slice_get}
use Rattle.number_set.specs.declared.NumberSet.{NumberSet}
use Rattle.number_set.specs.NumberSet as part

abbrev pub has_in : Option NumberSet → (number : ℕ) → Bool
has_in None number = true
has_in (Some numbers) number = part.has numbers number

-- whether a number is in a set of these parts; a number beyond them is
abbrev pub has : List NumberSet → (number : ℕ) → Bool
has parts number = has_in (slice_get parts (number / 32)) (number % 32)

-- how many numbers can be taken out
abbrev pub places : List NumberSet → ℕ
places parts = 32 * length parts
