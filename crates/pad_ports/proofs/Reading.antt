-- What is left of a list where one more was read.
use Rattle.std.proofs.Common.{◌≡◌, ℕ, zero, suc, ◌+◌, List, [], ◌∷◌, map, drop, refl, ap, ◌∙◌, arith}

next_left : {A B : Type 0} (f : A → B) (xs : List A) (n : ℕ) → map f (drop (suc n) xs) ≡ drop 1 (map f (drop n xs))
next_left f [] zero = refl
next_left f [] (suc n) = refl
next_left f (x ∷ xs) zero = refl
next_left f (x ∷ xs) (suc n) = next_left f xs n

pub one_read : {A B : Type 0} (f : A → B) (xs : List A) (n : ℕ) → map f (drop (n + 1) xs) ≡ drop 1 (map f (drop n xs))
one_read f xs n = let next : n + 1 ≡ suc n = omega arith in ap (λ k. map f (drop k xs)) next ∙ next_left f xs n
