-- The first of the names, from a place on.
use Rattle.std.proofs.Common.{◌≡◌, ℕ, ◌+◌, ◌<◌, ◌≤◌, cond, List, length, drop, get_or, Option, Some, bytes_eq, ◌∙◌, ap, sym, arith}
use Rattle.std.specs.List.{position_from, position}
use Rattle.std.proofs.lemmas.List.{at_drop_more}
use Rattle.std.proofs.lemmas.Iterator.Adapters.{position_from-zero}

-- the places of the names from a place on: the name there is put before those behind it
pub first_from : {A : Type 0} (f : A → List ℕ) (word octets : List ℕ) (xs : List A) (i n : ℕ) (x : A) (behind place : Option ℕ)
    → i + 1 ≡ n → i < length xs → x ≡ get_or xs i x → octets ≡ f x → behind ≡ position_from (λ y. bytes_eq (f y) word) n (drop n xs)
    → place ≡ cond (bytes_eq octets word) (Some i) behind → place ≡ position_from (λ y. bytes_eq (f y) word) i (drop i xs)
first_from f word octets xs i n x behind place next lt is same others found =
    found ∙ ap (λ (o : List ℕ). cond (bytes_eq o word) (Some i) behind) same
    ∙ ap (λ (o : Option ℕ). cond (bytes_eq (f x) word) (Some i) o) (others ∙ ap (λ (k : ℕ). position_from (λ y. bytes_eq (f y) word) k (drop k xs)) (sym next))
    ∙ ap (λ (y : _). cond (bytes_eq (f y) word) (Some i) (position_from (λ y. bytes_eq (f y) word) (i + 1) (drop (i + 1) xs))) is
    ∙ sym (at_drop_more (position_from (λ y. bytes_eq (f y) word) i) xs i x lt)

-- from the first place on they are those of all
pub first_of_all : {A : Type 0} (f : A → List ℕ) (word : List ℕ) (xs : List A) (i : ℕ) → i ≤ 0
    → position_from (λ y. bytes_eq (f y) word) i (drop i xs) ≡ position (λ y. bytes_eq (f y) word) xs
first_of_all f word xs i le =
    let none : i ≡ 0 = omega arith in
    rw none (sym (position_from-zero (λ y. bytes_eq (f y) word) xs))
