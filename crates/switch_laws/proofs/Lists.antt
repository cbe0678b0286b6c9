-- Lists by place, and places.
use Rattle.std.proofs.Common.{◌≡◌, ℕ, zero, suc, Bool, true, false, ◌&&◌, ◌==◌, List, [], ◌∷◌, map, refl, sym, ap, ap₂, subst, ◌∙◌, true≢false, option_map}
use Rattle.std.specs.Prelude.{slice_get}
use Rattle.std.proofs.lemmas.Bool.{eq-eqb}
use Rattle.switch_joins.specs.declared.channels.SwitchChannel.{SwitchChannel}
use Rattle.switch_lines.specs.Lines.{same_place, changed}

pub get_changed : {X : Type 0} (n : ℕ) (f : X → X) (xs : List X) → slice_get (changed n f xs) n ≡ option_map f (slice_get xs n)
get_changed n f [] = refl
get_changed zero f (x ∷ xs) = refl
get_changed (suc n) f (x ∷ xs) = get_changed n f xs

pub get_map : {X Y : Type 0} (f : X → Y) (xs : List X) (n : ℕ) → slice_get (map f xs) n ≡ option_map f (slice_get xs n)
get_map f [] n = refl
get_map f (x ∷ xs) zero = refl
get_map f (x ∷ xs) (suc n) = get_map f xs n

pub map_changed : {X Y : Type 0} (g : X → Y) (f : X → X) (h : Y → Y) (n : ℕ) (xs : List X) → ((x : X) → g (f x) ≡ h (g x)) → map g (changed n f xs) ≡ changed n h (map g xs)
map_changed g f h n [] e = refl
map_changed g f h zero (x ∷ xs) e = ap (λ y. y ∷ map g xs) (e x)
map_changed g f h (suc n) (x ∷ xs) e = ap (λ ys. g x ∷ ys) (map_changed g f h n xs e)

pub map_unchanged : {X Y : Type 0} (g : X → Y) (f : X → X) (n : ℕ) (xs : List X) → ((x : X) → g (f x) ≡ g x) → map g (changed n f xs) ≡ map g xs
map_unchanged g f n [] e = refl
map_unchanged g f zero (x ∷ xs) e = ap (λ y. y ∷ map g xs) (e x)
map_unchanged g f (suc n) (x ∷ xs) e = ap (λ ys. g x ∷ ys) (map_unchanged g f n xs e)

pub not_equal : (a b : ℕ) → (a == b) ≡ false → a ≡ b → ⊥
not_equal a b f e = true≢false (sym (eq-eqb a b e) ∙ f)

-- ---- places

pub same_as : (p q : SwitchChannel) → p ≡ q → same_place p q ≡ true
same_as p q e = subst (λ (r : SwitchChannel). same_place p r ≡ true) e (itself p)
  where
    itself : (p : SwitchChannel) → same_place p p ≡ true
    itself p = ap₂ (λ (a b : Bool). a && b) (eq-eqb p.line p.line refl) (eq-eqb p.channel p.channel refl)
