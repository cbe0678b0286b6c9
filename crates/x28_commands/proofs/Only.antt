-- What is in the grammar is read.
use Rattle.std.proofs.Common.{◌≡◌, ◌≢◌, ℕ, suc, ◌+◌, ◌-◌, ◌<◌, ◌≤◌, ◌⊎◌, inl, inr, Bool, true, false, not, cond, ◌&&◌, ◌||◌, ◌==◌, nat_lt, nat_le, List, [], ◌∷◌, ◌++◌, length, map, take, drop, get_or, Option, Some, Result, Ok, Err, refl, ap, sym, subst, ◌∙◌, arith, append_assoc, length-append, lit<}
use Rattle.std.specs.List.{list_all}
use Rattle.std.specs.Char.{is_ascii_digit, is_ascii_alphabetic, to_ascii_uppercase, is_ascii_uppercase}
use Rattle.std.specs.Prelude.{codes}
use Rattle.std.proofs.lemmas.List.{append-nil}
use Rattle.std.proofs.lemmas.List.Folds.{list_all-append}
use Rattle.std.proofs.Math.Seq.{take-append_seam, drop-append_seam}
use borrow.Author.Tests.{eqb-true, eqb-false, ltb-true, ltb-false, leb-true, le-leb, lt-leb, le-ltb, ne_eqb}
use Rattle.packet_codec.specs.Address.{address_of, are_digits}
use Rattle.packet_codec.specs.declared.address.AddressFault.{AddressFault}
use Rattle.packet_codec.specs.declared.address.AddressFault.TheVariants as address
use Rattle.x28_commands.specs.Words.{is_space, is_blank, run, after_spaces, trimmed}
use Rattle.x28_commands.specs.Keywords.{keyword_length, keyword_named, keyword_of, arguments_of}
use Rattle.x28_commands.specs.Selection.{digits_of, after_digits, selection, selection_with, selection_of}
use Rattle.x28_commands.specs.Reading.{with, command_from, command_in, command_of}
use Rattle.x28_commands.specs.CommandForm.{name_of, Worded, UserData, Selects, ArgumentsForm, CommandForm}
use Rattle.x28_commands.specs.CommandForm.UserData.{none as nothing, some as marked}
use Rattle.x28_commands.specs.CommandForm.CommandForm.{empty, selects, worded}
use Rattle.x28_commands.specs.declared.command.Command.{Command}
use Rattle.x28_commands.specs.declared.command.Command.TheVariants as command
use Rattle.x28_commands.specs.declared.command.Selection.{Selection}
use Rattle.x28_commands.specs.declared.keyword.Keyword.{Keyword}
use Rattle.x28_commands.specs.declared.keyword.Keyword.TheVariants as keyword
use Rattle.x28_commands.specs.declared.fault.CommandFault.{CommandFault}
use Rattle.x28_commands.proofs.Grammar.{both_true, digit_bounds, apart, all_implied}
use Rattle.x28_commands.proofs.Arguments.{keyword_only, arguments_only}
use Rattle.x28_commands.proofs.Lines.{Stops, run_all, after_blank, after_none, trimmed_blank, trimmed_solid, trimmed_ends}
use Rattle.x28_commands.proofs.Starts.{Starts, arguments_start}

-- ---- words

in_range : (a b o : ℕ) → a ≤ o → o ≤ b → (nat_le a o && nat_le o b) ≡ true
in_range a b o low high = rw (le-leb a o low, le-leb o b high) refl

or_true : (a : Bool) → (a || true) ≡ true
or_true true = refl
or_true false = refl

data UpperCase (o : ℕ) : Type 0 where
  below : o < 97 → to_ascii_uppercase o ≡ o → UpperCase o
  small : 97 ≤ o → o ≤ 122 → to_ascii_uppercase o ≡ o - 32 → UpperCase o
  above : 122 < o → to_ascii_uppercase o ≡ o → UpperCase o

upper_cases : (o : ℕ) → UpperCase o
upper_cases o = go (nat_lt o 97) (nat_lt o 123) refl refl
  where
    go : (a b : Bool) → nat_lt o 97 ≡ a → nat_lt o 123 ≡ b → UpperCase o
    go true b p q = below (ltb-true _ _ p) (rw p refl)
    go false true p q = let lt : o < 123 = ltb-true _ _ q in small (ltb-false _ _ p) (omega arith) (rw (p, q) refl)
    go false false p q = let le : 123 ≤ o = ltb-false _ _ q in above (omega arith) (rw (p, q) refl)

upper_letter : (o : ℕ) → is_ascii_uppercase (to_ascii_uppercase o) ≡ true → is_ascii_alphabetic o ≡ true
upper_letter o h =
    let now = both_true _ _ h in
    let low : 65 ≤ to_ascii_uppercase o = leb-true _ _ now.0 in
    let high : to_ascii_uppercase o ≤ 90 = leb-true _ _ now.1 in
    by_case (upper_cases o) low high
  where
    by_case : UpperCase o → 65 ≤ to_ascii_uppercase o → to_ascii_uppercase o ≤ 90 → is_ascii_alphabetic o ≡ true
    by_case (below lt is) low high = rw (in_range 65 90 o (omega arith) (omega arith)) refl
    by_case (small ge le is) low high = rw (in_range 97 122 o ge le) (or_true _)
    by_case (above gt is) low high = absurd (omega arith)

-- the letters of a word whose capitals are letters
letters_of : (word : List ℕ) → list_all is_ascii_uppercase (map to_ascii_uppercase word) ≡ true → list_all is_ascii_alphabetic word ≡ true
letters_of [] h = refl
letters_of (o ∷ os) h =
    let now = both_true (is_ascii_uppercase (to_ascii_uppercase o)) (list_all is_ascii_uppercase (map to_ascii_uppercase os)) h in
    rw (upper_letter o now.0, letters_of os now.1) refl

-- a keyword has letters, and then perhaps a question mark
pub record IsWord (word : List ℕ) : Type 0 where
  pub letters : List ℕ
  pub mark : List ℕ
  pub whole : word ≡ letters ++ mark
  pub alphabetic : list_all is_ascii_alphabetic letters ≡ true
  pub marks : (mark ≡ []) ⊎ (mark ≡ 0x3F ∷ [])
  pub some : 0 < length letters

upper_mark : (o : ℕ) → to_ascii_uppercase o ≡ 0x3F → o ≡ 0x3F
upper_mark o h = by_case (upper_cases o)
  where
    by_case : UpperCase o → o ≡ 0x3F
    by_case (below lt is) = sym is ∙ h
    by_case (small ge le is) = let sum : o - 32 ≡ 0x3F = sym is ∙ h in absurd (omega arith)
    by_case (above gt is) = sym is ∙ h

map_length : (xs : List ℕ) → length (map to_ascii_uppercase xs) ≡ length xs
map_length [] = refl
map_length (x ∷ xs) = ap suc (map_length xs)

plain_word : (word name : List ℕ) → map to_ascii_uppercase word ≡ name → list_all is_ascii_uppercase name ≡ true → 0 < length name → IsWord word
plain_word word name is letters some = record {
  letters = word;
  mark = [];
  whole = sym (append-nil word);
  alphabetic = letters_of word (ap (λ (xs : List ℕ). list_all is_ascii_uppercase xs) is ∙ letters);
  marks = inl refl;
  some = subst (λ n. 0 < n) (ap (λ (xs : List ℕ). length xs) (sym is) ∙ map_length word) some;
}

-- the word ends with the mark
ends_with : (word name : List ℕ) (n : ℕ) → map to_ascii_uppercase word ≡ name ++ n ∷ [] →
    (front : List ℕ) × (o : ℕ) × (word ≡ front ++ o ∷ []) × (map to_ascii_uppercase front ≡ name) × (to_ascii_uppercase o ≡ n)
ends_with [] [] n h = cc
ends_with [] (x ∷ xs) n h = cc
ends_with (o ∷ []) [] n h = ([], o, refl, refl, cc)
ends_with (o ∷ p ∷ os) [] n h = cc
ends_with (o ∷ os) (x ∷ xs) n h =
    let head : to_ascii_uppercase o ≡ x = cc in
    let tail : map to_ascii_uppercase os ≡ xs ++ n ∷ [] = cc in
    let rest = ends_with os xs n tail in
    (o ∷ rest.0, rest.1, ap (λ (ys : List ℕ). o ∷ ys) rest.2, rw (head, rest.3) refl, rest.4)

marked_word : (word name : List ℕ) → map to_ascii_uppercase word ≡ name ++ 0x3F ∷ [] → list_all is_ascii_uppercase name ≡ true → 0 < length name → IsWord word
marked_word word name is letters some =
    let parts = ends_with word name 0x3F is in
    let mark : parts.1 ≡ 0x3F = upper_mark parts.1 parts.4 in
    record {
      letters = parts.0;
      mark = 0x3F ∷ [];
      whole = parts.2 ∙ ap (λ o. parts.0 ++ o ∷ []) mark;
      alphabetic = letters_of parts.0 (ap (λ (xs : List ℕ). list_all is_ascii_uppercase xs) parts.3 ∙ letters);
      marks = inr refl;
      some = subst (λ n. 0 < n) (ap (λ (xs : List ℕ). length xs) (sym parts.3) ∙ map_length parts.0) some;
    }

word_shape : (k : Keyword) (word : List ℕ) → map to_ascii_uppercase word ≡ name_of k → IsWord word
word_shape keyword.Status word h = plain_word word _ h refl (lit< tt)
word_shape keyword.Clear word h = plain_word word _ h refl (lit< tt)
word_shape keyword.Interrupt word h = plain_word word _ h refl (lit< tt)
word_shape keyword.Reset word h = plain_word word _ h refl (lit< tt)
word_shape keyword.Profile word h = plain_word word _ h refl (lit< tt)
word_shape keyword.Read word h = marked_word word (codes "PAR") h refl (lit< tt)
word_shape keyword.Set word h = plain_word word _ h refl (lit< tt)
word_shape keyword.SetAndRead word h = marked_word word (codes "SET") h refl (lit< tt)

-- ---- the keyword at the front of a text

index_past : (xs ys : List ℕ) → get_or (xs ++ ys) (length xs) 0 ≡ get_or ys 0 0
index_past [] ys = refl
index_past (x ∷ xs) ys = index_past xs ys

abbrev is_mark : ℕ → Bool
is_mark o = o == 0x3F

front_other : (rest : List ℕ) → Stops is_mark rest → (get_or rest 0 0 == 0x3F) ≡ false
front_other [] stops = refl
front_other (o ∷ os) stops = stops

keyword_measured : (letters mark rest : List ℕ) → list_all is_ascii_alphabetic letters ≡ true → (mark ≡ []) ⊎ (mark ≡ 0x3F ∷ []) →
    Stops is_ascii_alphabetic rest → Stops is_mark rest → keyword_length ((letters ++ mark) ++ rest) ≡ length (letters ++ mark)
keyword_measured letters mark rest h (inl none) stops other =
    let letters_run : run is_ascii_alphabetic (letters ++ rest) ≡ length letters = run_all is_ascii_alphabetic letters rest h stops in
    let after : (get_or (letters ++ rest) (length letters) 0 == 0x3F) ≡ false =
    ap (λ o. o == 0x3F) (index_past letters rest) ∙ front_other rest other in
    let there : keyword_length (letters ++ rest) ≡ length letters = rw (letters_run, after) refl in
    rw (none, append-nil letters) there
keyword_measured letters mark rest h (inr one) stops other =
    let next : List ℕ = 0x3F ∷ rest in
    let letters_run : run is_ascii_alphabetic (letters ++ next) ≡ length letters = run_all is_ascii_alphabetic letters next h refl in
    let after : (get_or (letters ++ next) (length letters) 0 == 0x3F) ≡ true = ap (λ o. o == 0x3F) (index_past letters next) in
    let there : keyword_length (letters ++ next) ≡ length letters + 1 = rw (letters_run, after) refl in
    rw (one, append_assoc letters (0x3F ∷ []) rest) (there ∙ sym (length-append letters (0x3F ∷ [])))

keyword_here : (word rest : List ℕ) → IsWord word → Stops is_ascii_alphabetic rest → Stops is_mark rest → keyword_length (word ++ rest) ≡ length word
keyword_here word rest w stops other =
    let there = keyword_measured w.letters w.mark rest w.alphabetic w.marks stops other in
    rw w.whole there

-- ---- what octets are not

or_cases : (a b : Bool) → (a || b) ≡ true → (a ≡ true) ⊎ (b ≡ true)
or_cases true b h = inl refl
or_cases false b h = inr h

letter_low : (o : ℕ) → is_ascii_alphabetic o ≡ true → 65 ≤ o
letter_low o h = go (or_cases _ _ h)
  where
    go : ((nat_le 65 o && nat_le o 90) ≡ true) ⊎ ((nat_le 97 o && nat_le o 122) ≡ true) → 65 ≤ o
    go (inl p) = leb-true _ _ (both_true _ _ p).0
    go (inr p) = let low : 97 ≤ o = leb-true _ _ (both_true _ _ p).0 in omega arith

below_range : (a b o : ℕ) → o < a → (nat_le a o && nat_le o b) ≡ false
below_range a b o lt = rw (lt-leb a o lt) refl

above_range : (a b o : ℕ) → a ≤ o → b < o → (nat_le a o && nat_le o b) ≡ false
above_range a b o le lt = rw (le-leb a o le, lt-leb o b lt) refl

digit_no_letter : (o : ℕ) → is_ascii_digit o ≡ true → is_ascii_alphabetic o ≡ false
digit_no_letter o h =
    let high : o ≤ 57 = (digit_bounds o h).1 in
    rw (below_range 65 90 o (omega arith), below_range 97 122 o (omega arith)) refl

digit_no_mark : (o : ℕ) → is_ascii_digit o ≡ true → is_mark o ≡ false
digit_no_mark o h = let high : o ≤ 57 = (digit_bounds o h).1 in ne_eqb o 0x3F (omega arith)

digit_no_space : (o : ℕ) → is_ascii_digit o ≡ true → is_space o ≡ false
digit_no_space o h = let low : 48 ≤ o = (digit_bounds o h).0 in ne_eqb o 0x20 (omega arith)

letter_no_space : (o : ℕ) → is_ascii_alphabetic o ≡ true → is_space o ≡ false
letter_no_space o h = let low : 65 ≤ o = letter_low o h in ne_eqb o 0x20 (omega arith)

letter_no_digit : (o : ℕ) → is_ascii_alphabetic o ≡ true → is_ascii_digit o ≡ false
letter_no_digit o h = let low : 65 ≤ o = letter_low o h in above_range 48 57 o (omega arith) (omega arith)

-- ---- the line of a keyword

rest_stops : (p : ℕ → Bool) (gap text : List ℕ) → is_blank gap ≡ true → Starts text → p 0x20 ≡ false →
    ((d : ℕ) → is_ascii_digit d ≡ true → p d ≡ false) → Stops p (gap ++ text)
rest_stops p [] text h s space digit =
    let P : List ℕ → Type 0 = λ xs. Stops p xs in
    subst P (sym s.whole) (digit s.digit s.is_digit)
rest_stops p (g ∷ gs) text h s space digit =
    let is : g ≡ 0x20 = eqb-true g 0x20 (both_true (is_space g) (is_blank gs) h).0 in
    ap p is ∙ space

-- what is left of the line from the keyword on, without trailing spaces
record LineText (body word text : List ℕ) : Type 0 where
  rest : List ℕ
  trim : trimmed body ≡ word ++ rest
  stops : Stops is_ascii_alphabetic rest
  other : Stops is_mark rest
  after : after_spaces rest ≡ text

letters_solid : (xs : List ℕ) → list_all is_ascii_alphabetic xs ≡ true → list_all (λ o. not (is_space o)) xs ≡ true
letters_solid xs h =
    all_implied is_ascii_alphabetic (λ o. not (is_space o)) xs (λ o a. let low : 65 ≤ o = letter_low o a in apart o 0x20 (omega arith)) h

mark_solid : (mark : List ℕ) → (mark ≡ []) ⊎ (mark ≡ 0x3F ∷ []) → list_all (λ o. not (is_space o)) mark ≡ true
mark_solid mark (inl is) = rw is refl
mark_solid mark (inr is) = rw is refl

word_solid : (word : List ℕ) → IsWord word → list_all (λ o. not (is_space o)) word ≡ true
word_solid word w =
    let test : ℕ → Bool = λ o. not (is_space o) in
    ap (λ (xs : List ℕ). list_all test xs) w.whole ∙ list_all-append test w.letters w.mark
    ∙ rw (letters_solid w.letters w.alphabetic, mark_solid w.mark w.marks) refl

line_text : (word gap text trail : List ℕ) → IsWord word → is_blank gap ≡ true → is_blank trail ≡ true → (text ≡ []) ⊎ Starts text →
    LineText (word ++ (gap ++ (text ++ trail))) word text
line_text word gap text trail w gaps trails (inl none) =
    let spaces : is_blank (gap ++ trail) ≡ true = list_all-append is_space gap trail ∙ rw (gaps, trails) refl in
    let there : trimmed (word ++ (gap ++ trail)) ≡ word ++ [] =
    trimmed_blank (gap ++ trail) word spaces ∙ trimmed_solid word (word_solid word w) ∙ sym (append-nil word) in
    record { rest = []; trim = rw none there; stops = tt; other = tt; after = sym none }
line_text word gap text trail w gaps trails (inr s) =
    let whole : word ++ (gap ++ (text ++ trail)) ≡ ((word ++ gap) ++ text) ++ trail =
    sym (append_assoc word gap (text ++ trail)) ∙ sym (append_assoc (word ++ gap) text trail) in
    record {
      rest = gap ++ text;
      trim = ap trimmed whole ∙ trimmed_blank trail ((word ++ gap) ++ text) trails
          ∙ trimmed_ends (word ++ gap) text s.digit s.rest s.whole (trimmed_solid text s.solid) ∙ append_assoc word gap text;
      stops = rest_stops is_ascii_alphabetic gap text gaps s refl digit_no_letter;
      other = rest_stops is_mark gap text gaps s refl digit_no_mark;
      after = after_blank gap text gaps ∙ after_none text
          (let P : List ℕ → Type 0 = λ xs. Stops is_space xs in subst P (sym s.whole) (digit_no_space s.digit s.is_digit));
    }

word_stops_by : (letters mark more : List ℕ) → list_all is_ascii_alphabetic letters ≡ true → 0 < length letters →
    (x : ℕ) × (xs : List ℕ) × ((letters ++ mark) ++ more ≡ x ∷ xs) × (is_ascii_alphabetic x ≡ true)
word_stops_by [] mark more h lt = absurd (omega arith)
word_stops_by (x ∷ xs) mark more h lt = (x, (xs ++ mark) ++ more, refl, (both_true (is_ascii_alphabetic x) (list_all is_ascii_alphabetic xs) h).0)

word_begins : (word more : List ℕ) → IsWord word → (x : ℕ) × (xs : List ℕ) × (word ++ more ≡ x ∷ xs) × (is_ascii_alphabetic x ≡ true)
word_begins word more w =
    let found = word_stops_by w.letters w.mark more w.alphabetic w.some in
    (found.0, found.1, ap (λ (ys : List ℕ). ys ++ more) w.whole ∙ found.2, found.3)

command_worded : (body : List ℕ) (x : ℕ) (xs : List ℕ) → body ≡ x ∷ xs → is_ascii_digit x ≡ false →
    command_in body ≡ command_from (keyword_of (trimmed body)) (arguments_of (trimmed body))
command_worded body x xs e h =
    let P : List ℕ → Type 0 = λ ys. command_in ys ≡ command_from (keyword_of (trimmed ys)) (arguments_of (trimmed ys)) in
    let here : P (x ∷ xs) = rw h refl in
    subst P (sym e) here

from_rest : (k : Keyword) (word rest text : List ℕ) → IsWord word → map to_ascii_uppercase word ≡ name_of k → Stops is_ascii_alphabetic rest →
    Stops is_mark rest → after_spaces rest ≡ text → (keyword_of (word ++ rest) ≡ Some k) × (arguments_of (word ++ rest) ≡ text)
from_rest k word rest text w spelled stops other after =
    let count : keyword_length (word ++ rest) ≡ length word = keyword_here word rest w stops other in (
      ap (λ n. keyword_named (take n (word ++ rest))) count ∙ ap (λ (xs : List ℕ). keyword_named xs) (take-append_seam word rest) ∙ keyword_only word k spelled,
      ap (λ n. after_spaces (drop n (word ++ rest))) count ∙ ap (λ (xs : List ℕ). after_spaces xs) (drop-append_seam word rest) ∙ after,
    )

within : (line : List ℕ) → length line ≤ 64 → command_of line ≡ command_in (after_spaces line)
unfolding command_of
within line fits = rw (le-ltb 64 (length line) fits) refl

worded_only : (line : List ℕ) (k : Keyword) (text : List ℕ) (c : Command) → length line ≤ 64 → Worded line k text → ArgumentsForm k text c →
    command_of line ≡ Ok c
worded_only line k text c fits w a =
    let body : List ℕ = w.word ++ (w.gap ++ (text ++ w.trail)) in
    let shape : IsWord w.word = word_shape k w.word w.word_is in
    let front = word_begins w.word (w.gap ++ (text ++ w.trail)) shape in
    let P : List ℕ → Type 0 = λ xs. Stops is_space xs in
    let bare : after_spaces body ≡ body = after_none body (subst P (sym front.2) (letter_no_space front.0 front.3)) in
    let start : after_spaces line ≡ body = ap (λ (xs : List ℕ). after_spaces xs) w.whole ∙ after_blank w.lead body w.lead_blank ∙ bare in
    let t = line_text w.word w.gap text w.trail shape w.gap_blank w.trail_blank (arguments_start a) in
    let parts = from_rest k w.word t.rest text shape w.word_is t.stops t.other t.after in
    let named : keyword_of (trimmed body) ≡ Some k = ap (λ (xs : List ℕ). keyword_of xs) t.trim ∙ parts.0 in
    let said : arguments_of (trimmed body) ≡ text = ap (λ (xs : List ℕ). arguments_of xs) t.trim ∙ parts.1 in
    within line fits ∙ ap (λ (xs : List ℕ). command_in xs) start ∙ command_worded body front.0 front.1 front.2 (letter_no_digit front.0 front.3)
    ∙ ap (λ (o : Option Keyword). command_from o (arguments_of (trimmed body))) named
    ∙ ap (λ (xs : List ℕ). command_from (Some k) xs) said ∙ arguments_only a

-- ---- selections

guard_ok : (b : Bool) (e : AddressFault) (r : Result (List ℕ) AddressFault) (a : List ℕ) → cond b (Err e) r ≡ Ok a → (b ≡ false) × (r ≡ Ok a)
guard_ok true e r a h = cc
guard_ok false e r a h = (refl, h)

digits_ok : (b : Bool) (v : List ℕ) (e : AddressFault) (a : List ℕ) → cond b (Ok v) (Err e) ≡ Ok a → b ≡ true
digits_ok true v e a h = refl
digits_ok false v e a h = cc

address_digits : (digits a : List ℕ) → address_of digits ≡ Ok a → (list_all is_ascii_digit digits ≡ true) × (length digits ≢ 0)
address_digits digits a h =
    let some = guard_ok (length digits == 0) address.Empty _ a h in
    let short = guard_ok (nat_lt 15 (length digits)) address.TooLong _ a some.1 in
    (digits_ok (are_digits digits) _ address.NotADigit a short.1, eqb-false _ _ some.0)

data_stops : {rest octets : List ℕ} → UserData rest octets → Stops is_ascii_digit rest
data_stops (nothing {rest = []} h) = tt
data_stops (nothing {rest = o ∷ os} h) = ap is_ascii_digit (eqb-true o 0x20 (both_true (is_space o) (is_blank os) h).0)
data_stops (marked mark (inl is) graphic few) = ap is_ascii_digit is
data_stops (marked mark (inr is) graphic few) = ap is_ascii_digit is

marks : (mark : ℕ) → (mark ≡ 0x44) ⊎ (mark ≡ 0x50) → (is_space mark ≡ false) × (((mark == 0x44) || (mark == 0x50)) ≡ true)
marks mark (inl is) = (ap is_space is, ap (λ o. (o == 0x44) || (o == 0x50)) is)
marks mark (inr is) = (ap is_space is, ap (λ o. (o == 0x44) || (o == 0x50)) is)

data_only : (a : List ℕ) {rest octets : List ℕ} → UserData rest octets → selection_with (Ok a) rest ≡ Ok (selection a octets)
data_only a (nothing h) = rw h refl
data_only a (marked {octets = octets} mark is graphic few) =
    let m = marks mark is in
    rw (m.0, m.1, graphic, le-ltb 12 (length octets) few) refl

first_digit : (digits rest : List ℕ) → list_all is_ascii_digit digits ≡ true → length digits ≢ 0 →
    (x : ℕ) × (xs : List ℕ) × (digits ++ rest ≡ x ∷ xs) × (is_ascii_digit x ≡ true)
first_digit [] rest h ne = absurd (ne refl)
first_digit (x ∷ xs) rest h ne = (x, xs ++ rest, refl, (both_true (is_ascii_digit x) (list_all is_ascii_digit xs) h).0)

command_selected : (body : List ℕ) (x : ℕ) (xs : List ℕ) → body ≡ x ∷ xs → is_ascii_digit x ≡ true →
    command_in body ≡ with command.Select (selection_of body)
command_selected body x xs e h =
    let P : List ℕ → Type 0 = λ ys. command_in ys ≡ with command.Select (selection_of ys) in
    let here : P (x ∷ xs) = rw h refl in
    subst P (sym e) here

selection_said : (digits rest : List ℕ) (s : Selection) → address_of digits ≡ Ok s.address → UserData rest s.user_data.items →
    list_all is_ascii_digit digits ≡ true → selection_of (digits ++ rest) ≡ Ok s
unfolding selection_of
selection_said digits rest s found taken digit =
    let count : run is_ascii_digit (digits ++ rest) ≡ length digits = run_all is_ascii_digit digits rest digit (data_stops taken) in
    let front : digits_of (digits ++ rest) ≡ digits = ap (λ n. take n (digits ++ rest)) count ∙ take-append_seam digits rest in
    let back : after_digits (digits ++ rest) ≡ rest = ap (λ n. drop n (digits ++ rest)) count ∙ drop-append_seam digits rest in
    ap (λ (xs : List ℕ). selection_with (address_of xs) (after_digits (digits ++ rest))) front
    ∙ ap (λ (xs : List ℕ). selection_with (address_of digits) xs) back
    ∙ ap (λ (r : Result (List ℕ) AddressFault). selection_with r rest) found
    ∙ data_only s.address taken

selects_only : (line : List ℕ) (s : Selection) → length line ≤ 64 → Selects line s → command_of line ≡ Ok (command.Select s)
selects_only line s fits w =
    let body : List ℕ = w.digits ++ w.rest in
    let digits = address_digits w.digits s.address w.address in
    let front = first_digit w.digits w.rest digits.0 digits.1 in
    let P : List ℕ → Type 0 = λ xs. Stops is_space xs in
    let bare : after_spaces body ≡ body = after_none body (subst P (sym front.2) (digit_no_space front.0 front.3)) in
    let start : after_spaces line ≡ body = ap (λ (xs : List ℕ). after_spaces xs) w.whole ∙ after_blank w.lead body w.lead_blank ∙ bare in
    within line fits ∙ ap (λ (xs : List ℕ). command_in xs) start ∙ command_selected body front.0 front.1 front.2 front.3
    ∙ ap (λ (r : Result Selection CommandFault). with command.Select r) (selection_said w.digits w.rest s w.address w.user_data digits.0)

empty_only : (line : List ℕ) → length line ≤ 64 → is_blank line ≡ true → command_of line ≡ Ok command.Empty
empty_only line fits h =
    let start : after_spaces line ≡ [] = ap (λ (xs : List ℕ). after_spaces xs) (sym (append-nil line)) ∙ after_blank line [] h in
    within line fits ∙ ap (λ (xs : List ℕ). command_in xs) start

-- what is in the grammar is read
pub command_only : {line : List ℕ} {c : Command} → CommandForm line c → command_of line ≡ Ok c
command_only (empty {line = l} fits h) = empty_only l fits h
command_only (selects {line = l} {selection = s} fits w) = selects_only l s fits w
command_only (worded {line = l} k text {c = c} fits w a) = worded_only l k text c fits w a
