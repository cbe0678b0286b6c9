-- What is at a place of a list.
use Rattle.std.proofs.Common.{◌≡◌, ℕ, ◌<◌, zero, suc, List, [], ◌∷◌, length, Some, refl, sym, ap, ◌∙◌, arith, get_or}
use Rattle.std.specs.Prelude.{slice_get}
use Rattle.std.proofs.lemmas.Option.{same_Some, slice_get-get_or, none-some}

pub found : {X : Type 0} (xs : List X) (i : ℕ) (d x y : X) → i < length xs → x ≡ get_or xs i d → slice_get xs i ≡ Some y → x ≡ y
found xs i d x y h is there = is ∙ same_Some (get_or xs i d) y (sym (slice_get-get_or xs i d h) ∙ there)

pub there : {X : Type 0} (xs : List X) (i : ℕ) (d x : X) → i < length xs → x ≡ get_or xs i d → slice_get xs i ≡ Some x
there xs i d x h is = slice_get-get_or xs i d h ∙ ap Some (sym is)

pub within : {X : Type 0} (xs : List X) (i : ℕ) (x : X) → slice_get xs i ≡ Some x → i < length xs
within [] i x e = absurd (none-some x e)
within (y ∷ xs) zero x e = omega arith
within (y ∷ xs) (suc i) x e = let h = within xs i x e in omega (arith, h)

pub at_index : {X : Type 0} (xs : List X) (i : ℕ) → i < length xs → (x : X) × (slice_get xs i ≡ Some x)
at_index [] i h = absurd (omega (arith, h))
at_index (x ∷ xs) zero h = (x, refl)
at_index (x ∷ xs) (suc i) h = at_index xs i (omega (arith, h))
