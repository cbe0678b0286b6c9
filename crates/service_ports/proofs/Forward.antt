-- A key that is moved before the others.
use Rattle.std.proofs.Common.{◌≡◌, ℕ, zero, suc, ◌+◌, ◌-◌, ◌<◌, List, [], ◌∷◌, ◌++◌, length, take, drop, remove, refl, ap, ◌∙◌, arith, length-append}
use Rattle.service_ports.specs.declared.input.Key.{Key}

split_front : (keys : List Key) (place : ℕ) → place < length keys
    → (key : Key) × (take (suc place) keys ≡ take place keys ++ key ∷ []) × (length (take place keys) ≡ place)
split_front [] place within = absurd (omega arith)
split_front (first ∷ keys) zero within = (first, refl, refl)
split_front (first ∷ keys) (suc place) within =
    let on = split_front keys place (omega arith) in
    (on.0, ap (λ rest. first ∷ rest) on.1, ap suc on.2)

drop_front : (front back : List Key) → drop (length front) (front ++ back) ≡ back
drop_front [] back = refl
drop_front (key ∷ front) back = drop_front front back

take_front : (front back : List Key) → take (length front) (front ++ back) ≡ front
take_front [] back = refl
take_front (key ∷ front) back = ap (λ rest. key ∷ rest) (take_front front back)

turned : (front : List Key) (key : Key) (back : List Key)
    → drop 1 ((drop (length front) (front ++ key ∷ []) ++ take (length front) (front ++ key ∷ [])) ++ back) ≡ front ++ back
turned front key back = λ i. drop 1 ((drop_front front (key ∷ []) i ++ take_front front (key ∷ []) i) ++ back)

pub brought : (keys moved : List Key) (place : ℕ) → place < length keys
    → moved ≡ drop (length (take (place + 1) keys) - 1) (take (place + 1) keys) ++ take (length (take (place + 1) keys) - 1) (take (place + 1) keys)
    → drop 1 (moved ++ drop (place + 1) keys) ≡ remove keys place
brought keys moved place within is =
    let one = split_front keys place within in
    let front = take place keys in
    let next : place + 1 ≡ suc place = omega arith in
    let whole : take (place + 1) keys ≡ front ++ one.0 ∷ [] = ap (λ n. take n keys) next ∙ one.1 in
    let long : length (front ++ one.0 ∷ []) ≡ length front + 1 = length-append front (one.0 ∷ []) in
    let less : length (front ++ one.0 ∷ []) - 1 ≡ length front = omega (arith, long) in
    let last : length (take (place + 1) keys) - 1 ≡ length front = ap (λ ys. length ys - 1) whole ∙ less in
    ap (λ n. drop 1 (n ++ drop (place + 1) keys)) (is ∙ (λ i. drop (last i) (whole i) ++ take (last i) (whole i)))
    ∙ turned front one.0 (drop (place + 1) keys) ∙ ap (λ n. front ++ drop n keys) next
