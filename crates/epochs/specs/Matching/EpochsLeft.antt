-- An epoch of what passed, and those that an iterator has left.
use Rattle.std.specs.Prelude.{ℕ, List, [], ◌∷◌, ◌++◌, drop, slice_get, unwrap_or, Option, Some, None}
use Rattle.epochs.specs.Passed.{Part}
use Rattle.epochs.specs.Passed as passed
use Rattle.epochs.specs.declared.epochs_iter.EpochAt.{EpochAt}
use Rattle.epochs.specs.declared.epochs_iter.Epochs.{Epochs}

-- that of this number of those that ended, or the last one
abbrev pub nth_part : (number : ℕ) → passed.Epochs → Part
nth_part number e = unwrap_or (slice_get e.before number) e.last

abbrev pub part_at : EpochAt → Part
part_at a = nth_part a.number a.passed.now.epochs

-- all but the first so many; the last one is given last
abbrev pub parts_from : (given : Option ℕ) → passed.Epochs → List Part
parts_from (Some given) e = drop given e.before ++ e.last ∷ []
parts_from None e = []

abbrev pub parts_left : Epochs → List Part
parts_left i = parts_from i.given i.passed.now.epochs
