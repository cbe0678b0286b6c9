-- Lists of which one element is changed.
use Rattle.std.proofs.Common.{◌≡◌, ℕ, zero, suc, ◌<◌, ◌≤◌, List, [], ◌∷◌, length, set, get_or, refl, sym, ap, ◌∙◌, arith}
use Rattle.std.specs.Prelude.{slice_get, Some}
use Rattle.switch_lines.specs.Lines.{changed}

pub changed_here : {X : Type 0} (f : X → X) (xs : List X) (n : ℕ) (old new : X) → n < length xs → old ≡ get_or xs n old → new ≡ f old →
    set xs n new ≡ changed n f xs
changed_here f [] n old new h is done = absurd (omega arith)
changed_here f (x ∷ xs) zero old new h is done = ap (λ y. y ∷ xs) (done ∙ ap f is)
changed_here f (x ∷ xs) (suc n) old new h is done = ap (λ ys. x ∷ ys) (changed_here f xs n old new (omega arith) is done)

pub changed_nowhere : {X : Type 0} (f : X → X) (xs : List X) (n : ℕ) → length xs ≤ n → xs ≡ changed n f xs
changed_nowhere f [] n h = refl
changed_nowhere f (x ∷ xs) zero h = absurd (omega arith)
changed_nowhere f (x ∷ xs) (suc n) h = ap (λ ys. x ∷ ys) (changed_nowhere f xs n (omega arith))

pub length_changed : {X : Type 0} (n : ℕ) (f : X → X) (xs : List X) → length (changed n f xs) ≡ length xs
length_changed n f [] = refl
length_changed zero f (x ∷ xs) = refl
length_changed (suc n) f (x ∷ xs) = ap (λ (k : ℕ). suc k) (length_changed n f xs)

-- an element that is there, and one that is not
pub there : {X : Type 0} (xs : List X) (n : ℕ) (x : X) → n < length xs → x ≡ get_or xs n x → slice_get xs n ≡ Some x
there [] n x h e = absurd (omega arith)
there (y ∷ ys) zero x h e = ap Some (sym e)
there (y ∷ ys) (suc n) x h e = there ys n x (omega arith) e

-- the same of lines that are seen as such
pub changed_lines : {X : Type 0} (f : X → X) (xs ms : List X) (n : ℕ) (old new : X) → xs ≡ ms → n < length xs → old ≡ get_or xs n old → new ≡ f old →
    set xs n new ≡ changed n f ms
changed_lines f xs ms n old new e h is done = changed_here f xs n old new h is done ∙ ap (λ ys. changed n f ys) e

pub unchanged_lines : {X : Type 0} (f : X → X) (xs ms : List X) (n : ℕ) → xs ≡ ms → length xs ≤ n → ms ≡ changed n f ms
unchanged_lines f xs ms n e h = sym e ∙ changed_nowhere f xs n h ∙ ap (λ ys. changed n f ys) e
