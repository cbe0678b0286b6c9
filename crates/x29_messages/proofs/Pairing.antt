-- Octets as pairs.
use Rattle.std.proofs.Common.{◌≡◌, ℕ, List, [], ◌∷◌, ◌++◌, length, Option, Some, None, refl, ap, arith, append_assoc}
use Rattle.std.proofs.lemmas.List.{append-nil}
use Rattle.x29_messages.specs.Reading.{pairs_of, with_first}

-- the pairs so far, and then those of the rest
abbrev pub with_front : List (ℕ × ℕ) → Option (List (ℕ × ℕ)) → Option (List (ℕ × ℕ))
with_front front None = None
with_front front (Some pairs) = Some (front ++ pairs)

front_more : (front : List (ℕ × ℕ)) (pair : ℕ × ℕ) (rest : Option (List (ℕ × ℕ))) →
    with_front (front ++ pair ∷ []) rest ≡ with_front front (with_first pair rest)
front_more front pair None = refl
front_more front pair (Some pairs) = ap Some (append_assoc front (pair ∷ []) pairs)

-- one pair more
pub pairs_more : (front : List (ℕ × ℕ)) (reference value : ℕ) (rest : List ℕ) →
    with_front (front ++ (reference, value) ∷ []) (pairs_of rest) ≡ with_front front (pairs_of (reference ∷ value ∷ rest))
unfolding pairs_of
pairs_more front reference value rest = front_more front (reference, value) (pairs_of rest)

-- no octets are no pairs, and one octet is none
pub pairs_none : (front : List (ℕ × ℕ)) (rest : List ℕ) → length rest ≡ 0 → with_front front (pairs_of rest) ≡ Some front
unfolding pairs_of
pairs_none front [] none = ap Some (append-nil front)
pairs_none front (o ∷ os) none = absurd (omega arith)

pub pairs_odd : (front : List (ℕ × ℕ)) (rest : List ℕ) → length rest ≡ 1 → with_front front (pairs_of rest) ≡ None
unfolding pairs_of
pairs_odd front [] one = absurd (omega arith)
pairs_odd front (o ∷ []) one = refl
pairs_odd front (o ∷ p ∷ os) one = absurd (omega arith)
