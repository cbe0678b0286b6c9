-- Numbers, pairs, lists and what follows a keyword: what is read is in the grammar, and what is in the grammar is read.
use Rattle.std.proofs.Common.{◌≡◌, ◌≢◌, ℕ, suc, ◌+◌, ◌<◌, ◌≤◌, Bool, true, false, not, cond, ◌&&◌, ◌==◌, nat_lt, List, [], ◌∷◌, ◌++◌, length, map, take, drop, Option, Some, None, refl, ap, sym, subst, ◌∙◌, arith, get_or, add-one, drop-cons, length-append, lit<}
use Rattle.std.specs.Prelude.{position}
use Rattle.std.specs.List.{list_all, onto_first, prefix_len, slice_split, join_with_byte, position_or_len}
use Rattle.std.specs.Char.{is_ascii_digit}
use Rattle.std.proofs.lemmas.List.Splits.{join_with_byte-slice_split}
use borrow.Author.Tests.{eqb-true, leb-true, le-leb, lt-ltb, ne_eqb, not-true}
use Rattle.std.proofs.lemmas.List.Folds.{list_all-append}
use Rattle.std.proofs.lemmas.List.{take-append-drop}
use Rattle.std.proofs.Math.Seq.{take-append_seam}
use Rattle.std.proofs.lemmas.List.Quantifiers.{position-Some}
use Rattle.x28_commands.specs.Numbers.{IsNumber, IsPair, IsList, decimal, number_of, pair_of, pair_at, both, all_of, with_first, entries}
use Rattle.x28_commands.specs.Numbers.IsList.{last, more}

-- ---- tests

pub both_true : (a b : Bool) → (a && b) ≡ true → (a ≡ true) × (b ≡ true)
both_true true b h = (refl, h)
both_true false b h = cc

if_some : {A : Type 0} → (b : Bool) (x y : A) → cond b (Some x) None ≡ Some y → (b ≡ true) × (x ≡ y)
if_some true x y h = (refl, cc)
if_some false x y h = cc

-- ---- numbers

pub number_found : (text : List ℕ) (n : ℕ) → number_of text ≡ Some n → IsNumber text n
unfolding number_of
number_found text n h =
    let found = if_some _ (decimal text) n h in
    let low = both_true _ _ found.0 in
    let three = both_true _ _ low.0 in
    let some = both_true _ _ three.0 in
    let small : decimal text ≤ 255 = leb-true _ _ low.1 in
    record {
      some = leb-true _ _ some.0;
      short = leb-true _ _ some.1;
      digits = three.1;
      value = found.1;
      octet = subst (λ m. m ≤ 255) found.1 small;
    }

pub number_only : (text : List ℕ) (n : ℕ) → IsNumber text n → number_of text ≡ Some n
unfolding number_of
number_only text n is =
    let small : decimal text ≤ 255 = subst (λ m. m ≤ 255) (sym is.value) is.octet in
    rw (le-leb 1 (length text) is.some, le-leb (length text) 3 is.short, is.digits, le-leb (decimal text) 255 small, is.value) refl

-- ---- tests of each octet

pub all_implied : (p q : ℕ → Bool) (xs : List ℕ) → ((o : ℕ) → p o ≡ true → q o ≡ true) → list_all p xs ≡ true → list_all q xs ≡ true
all_implied p q [] imp h = refl
all_implied p q (x ∷ xs) imp h =
    let now = both_true (p x) (list_all p xs) h in
    rw (imp x now.0, all_implied p q xs imp now.1) refl

pub digit_bounds : (o : ℕ) → is_ascii_digit o ≡ true → (48 ≤ o) × (o ≤ 57)
digit_bounds o h = let now = both_true _ _ h in (leb-true _ _ now.0, leb-true _ _ now.1)

pub apart : (o c : ℕ) → o ≢ c → not (o == c) ≡ true
apart o c ne = rw (ne_eqb o c ne) refl

digits_without : (c : ℕ) (xs : List ℕ) → 57 < c → list_all is_ascii_digit xs ≡ true → list_all (λ o. not (o == c)) xs ≡ true
digits_without c xs above h =
    all_implied is_ascii_digit (λ o. not (o == c)) xs (λ o d. let le = digit_bounds o d in let top : o ≤ 57 = le.1 in apart o c (omega arith)) h

digits_without_comma : (xs : List ℕ) → list_all is_ascii_digit xs ≡ true → list_all (λ o. not (o == 0x2C)) xs ≡ true
digits_without_comma xs h =
    all_implied is_ascii_digit (λ o. not (o == 0x2C)) xs (λ o d. let le = digit_bounds o d in let low : 48 ≤ o = le.0 in apart o 0x2C (omega arith)) h

-- as many pass as stand before the first that fails
pub prefix_append : (p : ℕ → Bool) (xs : List ℕ) (y : ℕ) (ys : List ℕ) → list_all p xs ≡ true → p y ≡ false → prefix_len p (xs ++ y ∷ ys) ≡ length xs
prefix_append p [] y ys h f = rw f refl
prefix_append p (x ∷ xs) y ys h f =
    let now = both_true (p x) (list_all p xs) h in
    rw (now.0, prefix_append p xs y ys now.1 f) (omega arith)

pub drop_past : (xs : List ℕ) (y : ℕ) (ys : List ℕ) → drop (length xs + 1) (xs ++ y ∷ ys) ≡ ys
drop_past [] y ys = refl
drop_past (x ∷ xs) y ys =
    let count : length {A = ℕ} (x ∷ xs) + 1 ≡ suc (length xs + 1) = omega arith in
    ap (λ n. drop n (x ∷ (xs ++ y ∷ ys))) count ∙ drop_past xs y ys

-- ---- pairs

both_some : (a b : Option ℕ) (p : ℕ × ℕ) → both a b ≡ Some p → (a ≡ Some p.0) × (b ≡ Some p.1)
both_some (Some a) (Some b) p h =
    let is : (a, b) ≡ p = cc in
    (ap Some (ap (λ (q : ℕ × ℕ). q.0) is), ap Some (ap (λ (q : ℕ × ℕ). q.1) is))
both_some (Some a) None p h = cc
both_some None b p h = cc

at_colon : (text : List ℕ) (at : ℕ) → position (λ o. o == 0x3A) text ≡ Some at → text ≡ take at text ++ 0x3A ∷ drop (at + 1) text
at_colon text at h =
    let found = position-Some (λ o. o == 0x3A) text at 0 h in
    let lt : at < length text = found.0 in
    let colon : get_or text at 0 ≡ 0x3A = eqb-true _ _ found.1 in
    let here : take at text ++ drop at text ≡ text = take-append-drop at text in
    let rest : drop at text ≡ get_or text at 0 ∷ drop (at + 1) text = rw (add-one, drop-cons text at 0) refl in
    sym here ∙ ap (λ (xs : List ℕ). take at text ++ xs) (rest ∙ ap (λ o. o ∷ drop (at + 1) text) colon)

pub pair_found : (text : List ℕ) (p : ℕ × ℕ) → pair_of text ≡ Some p → IsPair text p
unfolding pair_of
pair_found text p h = go (position (λ o. o == 0x3A) text) refl h
  where
    go : (o : Option ℕ) → position (λ o. o == 0x3A) text ≡ o → pair_at o text ≡ Some p → IsPair text p
    go None is g = cc
    go (Some at) is g =
        let found = both_some _ _ p g in
        record {
          left = take at text;
          right = drop (at + 1) text;
          whole = at_colon text at is;
          number = number_found _ _ found.0;
          value = number_found _ _ found.1;
        }

position_here : (p : ℕ → Bool) (xs : List ℕ) (y : ℕ) (ys : List ℕ) → list_all (λ o. not (p o)) xs ≡ true → p y ≡ true →
    position p (xs ++ y ∷ ys) ≡ Some (length xs)
position_here p xs y ys h f =
    let stop : not (p y) ≡ false = rw f refl in
    let at : position_or_len p (xs ++ y ∷ ys) ≡ length xs = prefix_append (λ o. not (p o)) xs y ys h stop in
    let within : nat_lt (length xs) (length (xs ++ y ∷ ys)) ≡ true = lt-ltb _ _ (omega (arith, length-append xs (y ∷ ys))) in
    rw (at, within) refl

pub pair_only : (text : List ℕ) (p : ℕ × ℕ) → IsPair text p → pair_of text ≡ Some p
unfolding pair_of
pair_only text p is =
    let here : position (λ o. o == 0x3A) (is.left ++ 0x3A ∷ is.right) ≡ Some (length is.left) =
    position_here (λ o. o == 0x3A) is.left 0x3A is.right (digits_without 0x3A is.left (lit< tt) is.number.digits) refl in
    ap (λ (xs : List ℕ). pair_at (position (λ o. o == 0x3A) xs) xs) is.whole
    ∙ rw (
      here,
      take-append_seam is.left (0x3A ∷ is.right),
      drop_past is.left 0x3A is.right,
      number_only is.left p.0 is.number,
      number_only is.right p.1 is.value,
    ) refl

-- ---- lists

none_split : (p : ℕ → Bool) (text : List ℕ) → list_all (λ o. not (p o)) text ≡ true → slice_split p text ≡ text ∷ []
none_split p [] h = refl
none_split p (x ∷ xs) h =
    let now = both_true (not (p x)) (list_all (λ o. not (p o)) xs) h in
    rw (not-true (p x) now.0, none_split p xs now.1) refl

at_split : (p : ℕ → Bool) (text : List ℕ) (y : ℕ) (ys : List ℕ) → list_all (λ o. not (p o)) text ≡ true → p y ≡ true →
    slice_split p (text ++ y ∷ ys) ≡ text ∷ slice_split p ys
at_split p [] y ys h f = rw f refl
at_split p (x ∷ xs) y ys h f =
    let now = both_true (not (p x)) (list_all (λ o. not (p o)) xs) h in
    rw (not-true (p x) now.0, at_split p xs y ys now.1 f) refl

onto_shape : (x : ℕ) (parts : List (List ℕ)) → (part : List ℕ) × (more : List (List ℕ)) × (onto_first x parts ≡ part ∷ more)
onto_shape x [] = (x ∷ [], [], refl)
onto_shape x (part ∷ parts) = (x ∷ part, parts, refl)

split_shape : (p : ℕ → Bool) (text : List ℕ) → (part : List ℕ) × (more : List (List ℕ)) × (slice_split p text ≡ part ∷ more)
split_shape p [] = ([], [], refl)
split_shape p (x ∷ xs) = go (p x)
  where
    go : (b : Bool) → (part : List ℕ) × (more : List (List ℕ)) × (cond b ([] ∷ slice_split p xs) (onto_first x (slice_split p xs)) ≡ part ∷ more)
    go true = ([], slice_split p xs, refl)
    go false = onto_shape x (slice_split p xs)

first_entry : {A : Type 0} → (x : Option A) (rest : Option (List A)) (xs : List A) → with_first x rest ≡ Some xs →
    (y : A) × (ys : List A) × (x ≡ Some y) × (rest ≡ Some ys) × (xs ≡ y ∷ ys)
first_entry (Some x) (Some rest) xs h = (x, rest, refl, refl, cc)
first_entry (Some x) None xs h = cc
first_entry None rest xs h = cc

list_said : {A : Type 0} → (Entry : List ℕ → A → Type 0) (read : List ℕ → Option A) → ((t : List ℕ) (x : A) → read t ≡ Some x → Entry t x) →
    (part : List ℕ) (parts : List (List ℕ)) (xs : List A) → all_of (map read (part ∷ parts)) ≡ Some xs →
    IsList A Entry (join_with_byte 0x2C (part ∷ parts)) xs
list_said {A} Entry read sound part [] xs h =
    let found = first_entry (read part) (Some []) xs h in
    let none : [] ≡ found.1 = cc in
    let is : xs ≡ found.0 ∷ [] = found.4 ∙ ap (λ (ys : List A). found.0 ∷ ys) (sym none) in
    rw is (last (sound part found.0 found.2))
list_said {A} Entry read sound part (q ∷ qs) xs h =
    let found = first_entry (read part) (all_of (map read (q ∷ qs))) xs h in
    rw found.4 (more (sound part found.0 found.2) (list_said Entry read sound q qs found.1 found.3))

pub list_found : {A : Type 0} → (Entry : List ℕ → A → Type 0) (read : List ℕ → Option A) → ((t : List ℕ) (x : A) → read t ≡ Some x → Entry t x) →
    (text : List ℕ) (xs : List A) → entries read text ≡ Some xs → IsList A Entry text xs
unfolding entries
list_found {A} Entry read sound text xs h =
    let shape = split_shape (λ o. o == 0x2C) text in
    let here = rw shape.2 at h in
    let whole : join_with_byte 0x2C (shape.0 ∷ shape.1) ≡ text =
    ap (λ (ps : List (List ℕ)). join_with_byte 0x2C ps) (sym shape.2) ∙ join_with_byte-slice_split 0x2C text in
    let P : List ℕ → Type 0 = λ t. IsList A Entry t xs in
    subst P whole (list_said Entry read sound shape.0 shape.1 xs here)

pub list_only : {A : Type 0} → (Entry : List ℕ → A → Type 0) (read : List ℕ → Option A) → ((t : List ℕ) (x : A) → Entry t x → read t ≡ Some x) →
    ((t : List ℕ) (x : A) → Entry t x → list_all (λ o. not (o == 0x2C)) t ≡ true) →
    {text : List ℕ} {xs : List A} → IsList A Entry text xs → entries read text ≡ Some xs
unfolding entries
list_only Entry read complete plain (last {text = t} {x = x} e) =
    rw (none_split (λ o. o == 0x2C) t (plain t x e), complete t x e) refl
list_only Entry read complete plain (more {text = t} {rest = r} {x = x} {xs = xs} e l) =
    rw (at_split (λ o. o == 0x2C) t 0x2C r (plain t x e) refl, complete t x e, list_only Entry read complete plain l) refl

pub number_plain : (t : List ℕ) (n : ℕ) → IsNumber t n → list_all (λ o. not (o == 0x2C)) t ≡ true
number_plain t n is = digits_without_comma t is.digits

pub pair_plain : (t : List ℕ) (p : ℕ × ℕ) → IsPair t p → list_all (λ o. not (o == 0x2C)) t ≡ true
pair_plain t p is =
    let test : ℕ → Bool = λ o. not (o == 0x2C) in
    ap (λ (xs : List ℕ). list_all test xs) is.whole
    ∙ list_all-append test is.left (0x3A ∷ is.right)
    ∙ rw (digits_without_comma is.left is.number.digits, digits_without_comma is.right is.value.digits) refl
