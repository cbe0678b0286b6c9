-- How many octets at the front of a text pass a test.
use Rattle.std.proofs.Common.{◌≡◌, ℕ, ◌≤◌, Bool, true, false, cond, List, length, Some, None, refl, arith}
use Rattle.std.specs.Prelude.{position, unwrap_or, nat_lt, not}
use Rattle.std.specs.List.{position_or_len}
use Rattle.std.proofs.lemmas.List.Sums.{prefix_len-le-length}
use borrow.Author.Tests.{ltb-false}

choose : (b : Bool) (i n : ℕ) → (b ≡ false → n ≡ i) → unwrap_or (cond b (Some i) None) n ≡ i
choose true i n h = refl
choose false i n h = h refl

-- the place of the first that passes, or the length where none does
pub unwrap_position : (p : ℕ → Bool) (text : List ℕ) → unwrap_or (position p text) (length text) ≡ position_or_len p text
unwrap_position p text =
    choose (nat_lt (position_or_len p text) (length text)) _ _
    (λ no. let beyond : length text ≤ position_or_len p text = ltb-false _ _ no in omega (arith, prefix_len-le-length (λ o. not (p o)) text))
