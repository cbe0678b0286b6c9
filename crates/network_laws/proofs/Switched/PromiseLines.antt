-- The lines of a network, and their books.
use Rattle.std.proofs.Common.{◌≡◌, ℕ, arith, List, length, Some}
use Rattle.std.specs.Prelude.{slice_get}
use Rattle.std.proofs.lemmas.Option.{slice_get_within}
use Rattle.record_laws.proofs.Books.Basics.{get_there}

-- where two lists are as long, what one has at a place has a fellow in the other
pub fellow : {X Y : Type 0} (xs : List X) (ys : List Y) (i : ℕ) (y : Y) → length xs ≡ length ys → slice_get ys i ≡ Some y
    → (x : X) × (slice_get xs i ≡ Some x)
fellow xs ys i y c at = get_there xs i (let h = slice_get_within ys i y at in omega arith)
