-- Directions of a join: what is kept of one packet more, and what may be released.
use Rattle.std.proofs.Common.{◌≡◌, ℕ, zero, suc, ◌<◌, ◌≤◌, List, [], ◌∷◌, ◌++◌, take, length, refl, sym, ap, ◌∙◌, arith, length-append}
use Rattle.std.proofs.Math.Seq.{take-append_seam}
use Rattle.switch_joins.specs.Direction.{kept_places}

take_at_least : (n : ℕ) (xs : List ℕ) → length xs ≤ n → take n xs ≡ xs
take_at_least zero [] le = refl
take_at_least zero (x ∷ xs) le = absurd (omega arith)
take_at_least (suc n) [] le = refl
take_at_least (suc n) (x ∷ xs) le = ap (λ ys. x ∷ ys) (take_at_least n xs (omega arith))

pub one_kept : (held : List ℕ) (x : ℕ) → length held < 32 → held ++ x ∷ [] ≡ kept_places (held ++ x ∷ [])
one_kept held x lt = sym (take_at_least 32 (held ++ x ∷ []) (omega (arith, length-append held (x ∷ []))))

pub none_kept : (held : List ℕ) (x : ℕ) → 32 ≤ length held → length held ≤ 32 → held ≡ kept_places (held ++ x ∷ [])
none_kept held x ge le =
    let same : length held ≡ 32 = omega arith in
    sym (ap (λ n. take n (held ++ x ∷ [])) (sym same) ∙ take-append_seam held (x ∷ []))
