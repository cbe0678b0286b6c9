-- The words of a line: what is read of it, and of what it is made then.
use Rattle.std.proofs.Common.{◌≡◌, ℕ, zero, suc, ◌+◌, ◌<◌, ◌≤◌, Bool, true, false, not, cond, ◌==◌, nat_lt, List, [], ◌∷◌, ◌++◌, length, map, take, drop, Option, Some, None, option_map, refl, ap, sym, subst, ◌∙◌, arith, get_or, add-one, drop-cons, length-append, bytes_eq}
use Rattle.std.specs.Prelude.{position, slice_get}
use Rattle.std.specs.List.{list_all, prefix_len, position_or_len}
use Rattle.std.specs.Char.{is_ascii_digit}
use borrow.Author.Tests.{eqb-true, leb-true, le-leb, lt-ltb, ltb-true, ltb-false}
use Rattle.std.proofs.lemmas.List.{take-append-drop}
use Rattle.std.proofs.Math.Seq.{take-append_seam}
use Rattle.std.proofs.lemmas.List.Quantifiers.{position-Some}
use Rattle.std.proofs.lemmas.Option.{same_Some}
use Rattle.std.proofs.lemmas.Slice.Eq.{bytes_eq-Decides}
use Rattle.x28_commands.specs.Numbers.{decimal}
use Rattle.x28_commands.proofs.Grammar.{both_true, all_implied, digit_bounds, apart, prefix_append, drop_past}
use Rattle.net_files.specs.Cuts.{before_place, behind_place}
use Rattle.net_files.specs.Words.{◌␣◌, ◌>>=◌, has_no_space, IsNumber, IsNode, number_of, node_of, Left, next_word, named, number_at, node_at, ended, last}
use Rattle.net_files.proofs.Places.{irreflexive}

-- ---- options

pub bind_some : {A B : Type 0} (o : Option A) (f : A → Option B) (y : B) → (o >>= f) ≡ Some y → (x : A) × (o ≡ Some x) × (f x ≡ Some y)
bind_some None f y h = cc
bind_some (Some x) f y h = (x, refl, h)

pub map_some : {A B : Type 0} (f : A → B) (o : Option A) (y : B) → option_map f o ≡ Some y → (x : A) × (o ≡ Some x) × (f x ≡ y)
map_some f None y h = cc
map_some f (Some x) y h = (x, refl, cc)

pub last_some : {A : Type 0} (r : Option (A × Left)) (x : A) → last r ≡ Some x → r ≡ Some (x, None)
last_some None x h = cc
last_some {A} (Some r) x h = go r.1 refl h
  where
    go : (left : Left) → r.1 ≡ left → ended left r.0 ≡ Some x → Some r ≡ Some (x, None)
    go None is g = let same : r.0 ≡ x = cc in ap Some (pairs r x None same is)
      where
        pairs : (p : A × Left) (a : A) (l : Left) → p.0 ≡ a → p.1 ≡ l → p ≡ (a, l)
        pairs p a l e f = rw (← e, ← f) refl
    go (Some rest) is g = cc

pub named_some : {A : Type 0} (read : List ℕ → Option A) (o : Option (List ℕ × Left)) (x : A) (left : Left) → named read o ≡ Some (x, left)
    → (word : List ℕ) × (o ≡ Some (word, left)) × (read word ≡ Some x)
named_some read None x left h = cc
named_some {A} read (Some word) x left h =
    let found = map_some (λ (y : A). (y, word.1)) (read word.0) (x, left) h in
    let value : found.0 ≡ x = ap (λ (p : A × Left). p.0) found.2 in
    let rest : word.1 ≡ left = ap (λ (p : A × Left). p.1) found.2 in
    (word.0, rw (← rest) refl, found.1 ∙ ap Some value)

-- ---- where the first space is

stops : (p : ℕ → Bool) (xs : List ℕ) → list_all (λ o. not (p o)) xs ≡ true → prefix_len (λ o. not (p o)) xs ≡ length xs
stops p [] h = refl
stops p (x ∷ xs) h =
    let now = both_true (not (p x)) (list_all (λ o. not (p o)) xs) h in
    rw (now.0, stops p xs now.1) (omega arith)

no_position : (p : ℕ → Bool) (xs : List ℕ) → list_all (λ o. not (p o)) xs ≡ true → position p xs ≡ None
no_position p xs h = rw (stops p xs h, irreflexive (length xs)) refl

position_here : (p : ℕ → Bool) (xs : List ℕ) (y : ℕ) (ys : List ℕ) → list_all (λ o. not (p o)) xs ≡ true → p y ≡ true
    → position p (xs ++ y ∷ ys) ≡ Some (length xs)
position_here p xs y ys h f =
    let stop : not (p y) ≡ false = rw f refl in
    let at : position_or_len p (xs ++ y ∷ ys) ≡ length xs = prefix_append (λ o. not (p o)) xs y ys h stop in
    let within : nat_lt (length xs) (length (xs ++ y ∷ ys)) ≡ true = lt-ltb _ _ (omega (arith, length-append xs (y ∷ ys))) in
    rw (at, within) refl

-- a word that stands last, and one with more behind it
pub word_last : (word : List ℕ) → has_no_space word ≡ true → next_word (Some word) ≡ Some (word, None)
word_last word h = rw (no_position (λ o. o == 32) word h) refl

pub word_then : (word rest : List ℕ) → has_no_space word ≡ true → next_word (Some (word ␣ rest)) ≡ Some (word, Some rest)
word_then word rest h =
    rw (position_here (λ o. o == 32) word 32 rest h refl, take-append_seam word (32 ∷ rest), drop_past word 32 rest) refl

-- ---- of what a line is made whose next word was read

-- the word, and what is left behind it
abbrev pub joined : List ℕ → Left → List ℕ
joined word None = word
joined word (Some rest) = word ␣ rest

other_more : (p : ℕ → Bool) (x n : ℕ) (xs : List ℕ) (b : Bool) → p x ≡ b → suc n ≤ cond (not b) (1 + prefix_len (λ o. not (p o)) xs) 0
    → (n ≤ prefix_len (λ o. not (p o)) xs → list_all (λ o. not (p o)) (take n xs) ≡ true) → list_all (λ o. not (p o)) (x ∷ take n xs) ≡ true
other_more p x n xs true is h rest = absurd (omega arith)
other_more p x n xs false is h rest = rw (is, rest (omega arith)) refl

front_other : (p : ℕ → Bool) (xs : List ℕ) (at : ℕ) → at ≤ prefix_len (λ o. not (p o)) xs → list_all (λ o. not (p o)) (take at xs) ≡ true
front_other p xs zero h = refl
front_other p [] (suc at) h = refl
front_other p (x ∷ xs) (suc at) h = other_more p x at xs (p x) refl h (λ le. front_other p xs at le)

all_other : (p : ℕ → Bool) (xs : List ℕ) → length xs ≤ prefix_len (λ o. not (p o)) xs → list_all (λ o. not (p o)) xs ≡ true
all_other p xs h = ap (list_all (λ o. not (p o))) (sym (take_whole xs)) ∙ front_other p xs (length xs) h
  where
    take_whole : (ys : List ℕ) → take (length ys) ys ≡ ys
    take_whole [] = refl
    take_whole (y ∷ ys) = ap (λ zs. y ∷ zs) (take_whole ys)

pub record IsFront (line word : List ℕ) (left : Left) : Type 0 where
  pub whole : line ≡ joined word left
  pub one_word : has_no_space word ≡ true

at_place : (line : List ℕ) (at : ℕ) → position (λ o. o == 32) line ≡ Some at → IsFront line (take at line) (Some (drop (at + 1) line))
at_place line at h =
    let found = position-Some (λ o. o == 32) line at 0 h in
    let lt : at < length line = found.0 in
    let space : get_or line at 0 ≡ 32 = eqb-true _ _ found.1 in
    let here : take at line ++ drop at line ≡ line = take-append-drop at line in
    let rest : drop at line ≡ get_or line at 0 ∷ drop (at + 1) line = rw (add-one, drop-cons line at 0) refl in
    record {
      whole = sym here ∙ ap (λ (xs : List ℕ). take at line ++ xs) (rest ∙ ap (λ o. o ∷ drop (at + 1) line) space);
      one_word = front_other (λ o. o == 32) line at (within (nat_lt (position_or_len (λ o. o == 32) line) (length line)) h);
    }
  where
    within : (b : Bool) → cond b (Some (position_or_len (λ o. o == 32) line)) None ≡ Some at → at ≤ position_or_len (λ o. o == 32) line
    within true g = let same : position_or_len (λ o. o == 32) line ≡ at = cc in omega arith
    within false g = cc

no_place : (line : List ℕ) → position (λ o. o == 32) line ≡ None → IsFront line line None
no_place line h = record { whole = refl; one_word = all_other (λ o. o == 32) line (go (nat_lt (position_or_len (λ o. o == 32) line) (length line)) refl h) }
  where
    go : (b : Bool) → nat_lt (position_or_len (λ o. o == 32) line) (length line) ≡ b → cond b (Some (position_or_len (λ o. o == 32) line)) None ≡ None
        → length line ≤ position_or_len (λ o. o == 32) line
    go true is g = cc
    go false is g = ltb-false _ _ is

abbrev pub pair : List ℕ → Left → List ℕ × Left
pair word rest = (word, rest)

front_at : (line word : List ℕ) (rest : Left) (o : Option ℕ) → position (λ o. o == 32) line ≡ o
    → pair (before_place o line) (behind_place o line) ≡ pair word rest → IsFront line word rest
front_at line word rest None is h =
    let same : line ≡ word = ap (λ (p : List ℕ × Left). p.0) h in
    let none : None ≡ rest = ap (λ (p : List ℕ × Left). p.1) h in
    let P : Left → Type 0 = λ r. IsFront line word r in
    subst P none (subst (λ w. IsFront line w None) same (no_place line is))
front_at line word rest (Some at) is h =
    let same : take at line ≡ word = ap (λ (p : List ℕ × Left). p.0) h in
    let more : Some (drop (at + 1) line) ≡ rest = ap (λ (p : List ℕ × Left). p.1) h in
    let P : Left → Type 0 = λ r. IsFront line word r in
    subst P more (subst (λ w. IsFront line w (Some (drop (at + 1) line))) same (at_place line at is))

pub front : (left : Left) (word : List ℕ) (rest : Left) → next_word left ≡ Some (word, rest) → (line : List ℕ) × (left ≡ Some line) × IsFront line word rest
front None word rest h = cc
front (Some line) word rest h = (line, refl, front_at line word rest (position (λ o. o == 32) line) refl (same_Some _ _ h))

-- ---- numbers and names

digits_spaceless : (xs : List ℕ) → list_all is_ascii_digit xs ≡ true → has_no_space xs ≡ true
digits_spaceless xs h =
    all_implied is_ascii_digit (λ o. not (o == 32)) xs (λ o d. let le = digit_bounds o d in let low : 48 ≤ o = le.0 in apart o 32 (omega arith)) h

pub number_spaceless : {word : List ℕ} {n : ℕ} → IsNumber word n → has_no_space word ≡ true
number_spaceless {word = word} is = digits_spaceless word is.digits

pub digits_word : (word digits : List ℕ) → list_all is_ascii_digit word ≡ true → has_no_space word ≡ true
digits_word word digits h = digits_spaceless word h

if_some : {A : Type 0} → (b : Bool) (x y : A) → cond b (Some x) None ≡ Some y → (b ≡ true) × (x ≡ y)
if_some true x y h = (refl, cc)
if_some false x y h = cc

pub number_found : (word : List ℕ) (n : ℕ) → number_of word ≡ Some n → IsNumber word n
number_found word n h =
    let found = if_some _ (decimal word) n h in
    let most = both_true _ _ found.0 in
    let some = both_true _ _ most.0 in
    let small : decimal word ≤ 65535 = leb-true _ _ most.1 in
    record {
      some = leb-true _ _ some.0;
      digits = some.1;
      value = found.1;
      most = subst (λ m. m ≤ 65535) found.1 small;
    }

pub number_only : {word : List ℕ} {n : ℕ} → IsNumber word n → number_of word ≡ Some n
number_only {word = word} {n = n} is =
    let small : decimal word ≤ 65535 = subst (λ m. m ≤ 65535) (sym is.value) is.most in
    rw (le-leb 1 (length word) is.some, is.digits, le-leb (decimal word) 65535 small, is.value) refl

same_text : (xs ys : List ℕ) → bytes_eq xs ys ≡ true → xs ≡ ys
same_text xs ys h = let d = bytes_eq-Decides xs ys in d.0 h

pub text_same : (xs : List ℕ) → bytes_eq xs xs ≡ true
text_same xs = let d = bytes_eq-Decides xs xs in d.1 refl

pub text_is : (xs ys : List ℕ) → bytes_eq xs ys ≡ true → xs ≡ ys
text_is xs ys h = same_text xs ys h

-- the first of the names
name_found : (word : List ℕ) (names : List (List ℕ)) (place : ℕ) → place < length names → bytes_eq (get_or names place []) word ≡ true →
    slice_get names place ≡ Some word
name_found word [] place lt is = absurd (omega arith)
name_found word (name ∷ names) zero lt is = ap Some (text_is name word is)
name_found word (name ∷ names) (suc place) lt is = name_found word names place (omega arith) is

named_at : (word : List ℕ) (names : List (List ℕ)) (place : ℕ) → slice_get names place ≡ Some word → bytes_eq (get_or names place []) word ≡ true
named_at word [] place h = cc
named_at word (name ∷ names) zero h = let same : name ≡ word = cc in rw same (text_same word)
named_at word (name ∷ names) (suc place) h = named_at word names place h

pub node_found : (names : List (List ℕ)) (word : List ℕ) (node : ℕ) → has_no_space word ≡ true → node_of names word ≡ Some node → IsNode names word node
node_found names word node spaceless h =
    let found = position-Some (λ name. bytes_eq name word) names node [] h in
    record {
      one_word = spaceless;
      there = name_found word names node found.0 found.1;
      first = λ place is. go place is (nat_lt place node) refl found.2;
    }
  where
    go : (place : ℕ) → slice_get names place ≡ Some word → (b : Bool) → nat_lt place node ≡ b
        → ((k : ℕ) → k < node → bytes_eq (get_or names k []) word ≡ false) → node ≤ place
    go place is true lt others =
        let yes : bytes_eq (get_or names place []) word ≡ true = named_at word names place is in
        let no : bytes_eq (get_or names place []) word ≡ false = others place (ltb-true _ _ lt) in
        absurd (different (sym yes ∙ no))
      where
        different : true ≡ false → ⊥
        different e = cc
    go place is false lt others = ltb-false _ _ lt

abbrev IsFirst : List ℕ → List (List ℕ) → ℕ → Type 0
IsFirst word names node = (place : ℕ) → slice_get names place ≡ Some word → node ≤ place

first_name : (word name : List ℕ) (names : List (List ℕ)) (node : ℕ) (b : Bool) → bytes_eq name word ≡ b
    → slice_get (name ∷ names) node ≡ Some word → IsFirst word (name ∷ names) node
    → ((n : ℕ) → slice_get names n ≡ Some word → IsFirst word names n
    → (prefix_len (λ name. not (bytes_eq name word)) names ≡ n) × (n < length names))
    → (prefix_len (λ name. not (bytes_eq name word)) (name ∷ names) ≡ node) × (node < length (name ∷ names))
first_name word name names node true is h first others =
    let none : node ≤ 0 = first 0 (ap Some (text_is name word is)) in
    (rw is (omega arith), omega arith)
first_name word name names zero false is h first others =
    let same : name ≡ word = cc in
    let yes : bytes_eq name word ≡ true = rw same (text_same word) in
    cc
first_name word name names (suc node) false is h first others =
    let rest = others node h (λ place there. let le : suc node ≤ suc place = first (suc place) there in omega arith) in
    (rw (is, rest.0) (omega arith), omega (arith, rest.1))

name_first : (word : List ℕ) (names : List (List ℕ)) (node : ℕ) → slice_get names node ≡ Some word → IsFirst word names node
    → (prefix_len (λ name. not (bytes_eq name word)) names ≡ node) × (node < length names)
name_first word [] node h first = cc
name_first word (name ∷ names) node h first = first_name word name names node (bytes_eq name word) refl h first (name_first word names)

pub node_only : {names : List (List ℕ)} {word : List ℕ} {node : ℕ} → IsNode names word node → node_of names word ≡ Some node
node_only {names = names} {word = word} {node = node} is =
    let at = name_first word names node is.there is.first in
    let within : nat_lt node (length names) ≡ true = lt-ltb _ _ at.1 in
    rw (at.0, within) refl

-- ---- the next word, as a number or a name, last and with more behind it

pub named_is : {A : Type 0} (read : List ℕ → Option A) (o : Option (List ℕ × Left)) (word : List ℕ) (left : Left) (x : A)
    → o ≡ Some (word, left) → read word ≡ Some x → named read o ≡ Some (x, left)
named_is {A} read o word left x there is = ap (named read) there ∙ ap (option_map (λ (y : A). (y, left))) is

pub number_last : {word : List ℕ} {n : ℕ} → IsNumber word n → number_at (Some word) ≡ Some (n, None)
number_last {word = word} {n = n} is =
    named_is number_of (next_word (Some word)) word None n (word_last word (number_spaceless is)) (number_only is)

pub number_then : {word : List ℕ} {n : ℕ} → IsNumber word n → (rest : List ℕ) → number_at (Some (word ␣ rest)) ≡ Some (n, Some rest)
number_then {word = word} {n = n} is rest =
    named_is number_of (next_word (Some (word ␣ rest))) word (Some rest) n (word_then word rest (number_spaceless is)) (number_only is)

pub node_last : {names : List (List ℕ)} {word : List ℕ} {node : ℕ} → IsNode names word node → node_at names (Some word) ≡ Some (node, None)
node_last {names = names} {word = word} {node = node} is =
    named_is (node_of names) (next_word (Some word)) word None node (word_last word is.one_word) (node_only is)

pub node_then : {names : List (List ℕ)} {word : List ℕ} {node : ℕ} → IsNode names word node → (rest : List ℕ)
    → node_at names (Some (word ␣ rest)) ≡ Some (node, Some rest)
node_then {names = names} {word = word} {node = node} is rest =
    named_is (node_of names) (next_word (Some (word ␣ rest))) word (Some rest) node (word_then word rest is.one_word) (node_only is)

-- a number or a name that was read, and the word that says it
pub record NumberRead (left : Left) (n : ℕ) (rest : Left) : Type 0 where
  pub word : List ℕ
  pub is_number : IsNumber word n
  pub whole : left ≡ Some (joined word rest)

pub number_read : (left : Left) (n : ℕ) (rest : Left) → number_at left ≡ Some (n, rest) → NumberRead left n rest
number_read left n rest h =
    let found = named_some number_of (next_word left) n rest h in
    let line = front left found.0 rest found.1 in
    let is : IsFront line.0 found.0 rest = line.2 in
    record { word = found.0; is_number = number_found found.0 n found.2; whole = line.1 ∙ ap Some is.whole }

pub record NodeRead (names : List (List ℕ)) (left : Left) (node : ℕ) (rest : Left) : Type 0 where
  pub word : List ℕ
  pub is_node : IsNode names word node
  pub whole : left ≡ Some (joined word rest)

pub node_read : (names : List (List ℕ)) (left : Left) (node : ℕ) (rest : Left) → node_at names left ≡ Some (node, rest) → NodeRead names left node rest
node_read names left node rest h =
    let found = named_some (node_of names) (next_word left) node rest h in
    let line = front left found.0 rest found.1 in
    let is : IsFront line.0 found.0 rest = line.2 in
    record { word = found.0; is_node = node_found names found.0 node is.one_word found.2; whole = line.1 ∙ ap Some is.whole }

-- the place of a name, found among the names as the code has them
pub position_of_names : {A : Type 0} (f : A → List ℕ) (word : List ℕ) (names : List A)
    → position (λ name. bytes_eq (f name) word) names ≡ node_of (map f names) word
position_of_names f word names = rw (counts names, lengths names) refl
  where
    lengths : (xs : List _) → length (map f xs) ≡ length xs
    lengths [] = refl
    lengths (x ∷ xs) = ap suc (lengths xs)

    counts : (xs : List _) → prefix_len (λ name. not (bytes_eq name word)) (map f xs) ≡ prefix_len (λ name. not (bytes_eq (f name) word)) xs
    counts [] = refl
    counts (x ∷ xs) = rw (counts xs) refl
