-- Lists by number.
use Rattle.std.proofs.Common.{◌≡◌, ℕ, zero, suc, ◌+◌, ◌≤◌, ◌==◌, Bool, true, false, if◌then◌else◌, List, [], ◌∷◌, length, Option, Some, None, refl, sym, ap, subst, ◌∙◌, arith}
use Rattle.std.specs.Prelude.{slice_get}
use Rattle.std.specs.List.{list_all}
use Rattle.std.specs.Option.{option_map}
use Rattle.std.proofs.lemmas.Option.{none-some, same_Some}
use Rattle.std.proofs.lemmas.Bool.{and_parts, eqb-true, eqb-false, leb-true}
use Rattle.network_runs.specs.Acting.{map_numbered, place_among}
use Rattle.network_runs.specs.Making.{all_numbered, is_between}

-- ---- each element changed

pub length_numbered : {A B : Type 0} (f : ℕ → A → B) (first : ℕ) (xs : List A) → length (map_numbered f first xs) ≡ length xs
length_numbered f first [] = refl
length_numbered f first (x ∷ xs) = ap (λ (n : ℕ). suc n) (length_numbered f (suc first) xs)

numbered_from : {A B : Type 0} (f : ℕ → A → B) (first i n : ℕ) (xs : List A) → first + i ≡ n → slice_get (map_numbered f first xs) i ≡ option_map (f n) (slice_get xs i)
numbered_from f first i n [] e = refl
numbered_from f first zero n (x ∷ xs) e = let same : first ≡ n = omega (arith, e) in ap (λ (k : ℕ). Some (f k x)) same
numbered_from f first (suc i) n (x ∷ xs) e = let later : suc first + i ≡ n = omega (arith, e) in numbered_from f (suc first) i n xs later

pub numbered_at : {A B : Type 0} (f : ℕ → A → B) (i : ℕ) (xs : List A) → slice_get (map_numbered f 0 xs) i ≡ option_map (f i) (slice_get xs i)
numbered_at f i xs = let same : 0 + i ≡ i = omega arith in numbered_from f 0 i i xs same

-- ---- a test of each

all_from : {A : Type 0} (test : ℕ → A → Bool) (first i n : ℕ) (xs : List A) (x : A) → first + i ≡ n → all_numbered test first xs ≡ true → slice_get xs i ≡ Some x → test n x ≡ true
all_from test first i n [] x is all e = absurd (none-some x e)
all_from test first zero n (y ∷ xs) x is all e =
    let same : first ≡ n = omega (arith, is) in
    subst (λ (k : ℕ). test k x ≡ true) same (subst (λ z. test first z ≡ true) (same_Some y x e) (and_parts _ _ all).0)
all_from test first (suc i) n (y ∷ xs) x is all e =
    let later : suc first + i ≡ n = omega (arith, is) in all_from test (suc first) i n xs x later (and_parts _ _ all).1 e

pub all_at : {A : Type 0} (test : ℕ → A → Bool) (i : ℕ) (xs : List A) (x : A) → all_numbered test 0 xs ≡ true → slice_get xs i ≡ Some x → test i x ≡ true
all_at test i xs x all e = let same : 0 + i ≡ i = omega arith in all_from test 0 i i xs x same all e

pub each_at : {A : Type 0} (test : A → Bool) (i : ℕ) (xs : List A) (x : A) → list_all test xs ≡ true → slice_get xs i ≡ Some x → test x ≡ true
each_at test i [] x all e = absurd (none-some x e)
each_at test zero (y ∷ xs) x all e = subst (λ z. test z ≡ true) (same_Some y x e) (and_parts _ _ all).0
each_at test (suc i) (y ∷ xs) x all e = each_at test i xs x (and_parts _ _ all).1 e

pub between_is : (least most n : ℕ) → is_between least most n ≡ true → (least ≤ n) × (n ≤ most)
between_is least most n h = let both = and_parts _ _ h in (leb-true least n both.0, leb-true n most both.1)

-- ---- where a number is

place_from : (b : Bool) (x number place : ℕ) (rest : Option ℕ) (xs : List ℕ) → (x == number) ≡ b → ((k : ℕ) → rest ≡ Some k → slice_get xs k ≡ Some number)
    → (if b then Some 0 else option_map (λ k. suc k) rest) ≡ Some place → slice_get (x ∷ xs) place ≡ Some number
place_from true x number place rest xs same later e = subst (λ (k : ℕ). slice_get (x ∷ xs) k ≡ Some number) (same_Some 0 place e) (ap (λ (n : ℕ). Some n) (eqb-true x number same))
place_from false x number place None xs other later e = absurd (none-some place e)
place_from false x number place (Some k) xs other later e = subst (λ (j : ℕ). slice_get (x ∷ xs) j ≡ Some number) (same_Some (suc k) place e) (later k refl)

-- it is there
pub place_there : (xs : List ℕ) (number place : ℕ) → place_among xs number ≡ Some place → slice_get xs place ≡ Some number
place_there [] number place e = absurd (none-some place e)
place_there (x ∷ xs) number place e = place_from (x == number) x number place (place_among xs number) xs refl (λ k h. place_there xs number k h) e

none_from : (b : Bool) (x number own : ℕ) (rest : Option ℕ) (xs : List ℕ) → (x == number) ≡ b → (rest ≡ None → (k : ℕ) → slice_get xs k ≡ Some number → ⊥)
    → (if b then Some 0 else option_map (λ k. suc k) rest) ≡ None → slice_get (x ∷ xs) own ≡ Some number → ⊥
none_from true x number own rest xs same later e d = none-some 0 (sym e)
none_from false x number zero rest xs other later e d = eqb-false x number other (same_Some x number d)
none_from false x number (suc own) None xs other later e d = later refl own d
none_from false x number (suc own) (Some k) xs other later e d = none-some (suc k) (sym e)

pub none_there : (xs : List ℕ) (number own : ℕ) → place_among xs number ≡ None → slice_get xs own ≡ Some number → ⊥
none_there [] number own e d = none-some number d
none_there (x ∷ xs) number own e d = none_from (x == number) x number own (place_among xs number) xs refl (λ none k h. none_there xs number k none h) e d

place_or_none : (xs : List ℕ) (number : ℕ) (o : Option ℕ) → place_among xs number ≡ o → ((own : ℕ) → slice_get xs own ≡ Some number → ⊥) → place_among xs number ≡ None
place_or_none xs number None is none = is
place_or_none xs number (Some k) is none = absurd (none k (place_there xs number k is))

pub other_none : (xs : List ℕ) (number : ℕ) → ((own : ℕ) → slice_get xs own ≡ Some number → ⊥) → place_among xs number ≡ None
other_none xs number none = place_or_none xs number (place_among xs number) refl none

its_place : (xs : List ℕ) (number own : ℕ) (o : Option ℕ) → place_among xs number ≡ o → slice_get xs own ≡ Some number
    → ((k : ℕ) → slice_get xs k ≡ Some number → k ≡ own) → place_among xs number ≡ Some own
its_place xs number own None is e same = absurd (none_there xs number own is e)
its_place xs number own (Some k) is e same = is ∙ ap (λ (n : ℕ). Some n) (same k (place_there xs number k is))

-- the one place of a number in a list
pub place_is : (xs : List ℕ) (number own : ℕ) → slice_get xs own ≡ Some number → ((k : ℕ) → slice_get xs k ≡ Some number → k ≡ own) → place_among xs number ≡ Some own
place_is xs number own e same = its_place xs number own (place_among xs number) refl e same

pub if_some : {X : Type 0} (b : Bool) (x y : X) → (if b then Some x else None) ≡ Some y → (b ≡ true) × (x ≡ y)
if_some true x y e = (refl, same_Some x y e)
if_some false x y e = absurd (none-some y e)
