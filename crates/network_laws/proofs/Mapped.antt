-- What is at a place of a list whose elements are mapped.
use Rattle.std.proofs.Common.{◌≡◌, ℕ, List, map, Option, Some, None, refl, sym, ap, ◌∙◌}
use Rattle.std.specs.Prelude.{slice_get}
use Rattle.std.specs.Option.{option_map}
use Rattle.std.proofs.lemmas.Option.{same_Some, none-some, slice_get-map}

pub mapped : {X Y : Type 0} (f : X → Y) (xs : List X) (k : ℕ) (x : X) → slice_get xs k ≡ Some x → slice_get (map f xs) k ≡ Some (f x)
mapped f xs k x e = slice_get-map f xs k ∙ ap (λ o. option_map f o) e

pub unmapped : {X Y : Type 0} (f : X → Y) (xs : List X) (k : ℕ) (y : Y) → slice_get (map f xs) k ≡ Some y → (x : X) × (slice_get xs k ≡ Some x) × (y ≡ f x)
unmapped {X} {Y} f xs k y e = by (slice_get xs k) refl (sym (slice_get-map f xs k) ∙ e)
  where
    by : (o : Option X) → slice_get xs k ≡ o → option_map f o ≡ Some y → (x : X) × (slice_get xs k ≡ Some x) × (y ≡ f x)
    by None is h = absurd (none-some y h)
    by (Some x) is h = (x, is, sym (same_Some (f x) y h))
