-- Places for joins, by the numbers of their channels.
use Rattle.std.proofs.Common.{◌≡◌, ℕ, zero, suc, ◌-◌, ◌≤◌, List, [], ◌∷◌, length, set, refl, ap, arith, Option, None}
use Rattle.std.specs.Prelude.{slice_get}
use Rattle.std.proofs.Math.ListN.{length-set}
use Rattle.switch_joins.specs.Joins.{Joined, flat, nth_joined, with_nth_joined}

pub get_outside : {X : Type 0} (xs : List X) (i : ℕ) → length xs ≤ i → slice_get xs i ≡ None
get_outside [] i h = refl
get_outside (y ∷ ys) zero h = absurd (omega arith)
get_outside (y ∷ ys) (suc i) h = get_outside ys i (omega arith)

set_outside : {X : Type 0} (xs : List X) (i : ℕ) (x : X) → length xs ≤ i → set xs i x ≡ xs
set_outside [] i x h = refl
set_outside (y ∷ ys) zero x h = absurd (omega arith)
set_outside (y ∷ ys) (suc i) x h = ap (λ zs. y ∷ zs) (set_outside ys i x (omega arith))

pub past_channels : (js : List (Option Joined)) (c place : ℕ) → place ≡ c - 1 → 1 ≤ c → length js ≤ place →
    (nth_joined js c ≡ None) × ((o : Option Joined) → with_nth_joined js c o ≡ js)
past_channels js zero place e h out = absurd (omega arith)
past_channels js (suc i) place e h out = (ap flat (get_outside js i (omega arith)), λ o. set_outside js i o (omega arith))

-- another place
set_apart : (js : List (Option Joined)) (i k : ℕ) (o : Option Joined) → (k ≡ i → ⊥) → slice_get (set js i o) k ≡ slice_get js k
set_apart [] i k o ne = refl
set_apart (j ∷ js) zero zero o ne = absurd (ne refl)
set_apart (j ∷ js) zero (suc k) o ne = refl
set_apart (j ∷ js) (suc i) zero o ne = refl
set_apart (j ∷ js) (suc i) (suc k) o ne = set_apart js i k o (λ e. ne (ap suc e))

pub nth_apart : (js : List (Option Joined)) (c d : ℕ) (o : Option Joined) → (d ≡ c → ⊥) → nth_joined (with_nth_joined js c o) d ≡ nth_joined js d
nth_apart js zero d o ne = refl
nth_apart js (suc i) zero o ne = refl
nth_apart js (suc i) (suc k) o ne = ap (λ x. flat x) (set_apart js i k o (λ e. ne (ap suc e)))

pub set_size : (js : List (Option Joined)) (c : ℕ) (o : Option Joined) → length (with_nth_joined js c o) ≡ length js
set_size js zero o = refl
set_size js (suc i) o = length-set js i o
