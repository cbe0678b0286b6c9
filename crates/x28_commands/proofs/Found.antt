-- What is read is in the grammar.
use Rattle.std.proofs.Common.{◌≡◌, ℕ, ◌≤◌, ◌⊎◌, inl, inr, Bool, true, false, cond, ◌||◌, ◌==◌, nat_lt, List, [], ◌∷◌, ◌++◌, length, take, drop, Option, Some, None, Result, Ok, Err, IfOk, refl, ap, sym, subst, ◌∙◌, append_assoc}
use Rattle.std.specs.List.{list_all}
use Rattle.std.specs.Char.{is_ascii_digit}
use Rattle.std.proofs.lemmas.List.{take-append-drop, append-nil}
use borrow.Author.Tests.{eqb-true, ltb-false}
use Rattle.packet_codec.specs.Address.{address_of}
use Rattle.packet_codec.specs.declared.address.AddressFault.{AddressFault}
use Rattle.x28_commands.specs.Words.{is_space, is_blank, is_graphic, run, after_spaces, trimmed}
use Rattle.x28_commands.specs.Keywords.{keyword_length, keyword_of, arguments_of}
use Rattle.x28_commands.specs.Selection.{digits_of, after_digits, has_user_data, selection, selection_with, selection_of}
use Rattle.x28_commands.specs.Reading.{Answer, with, command_from, command_in, command_of, line_limit}
use Rattle.x28_commands.specs.CommandForm.{Worded, UserData, Selects, CommandForm}
use Rattle.x28_commands.specs.CommandForm.UserData.{none, some}
use Rattle.x28_commands.specs.CommandForm.CommandForm.{empty, selects, worded}
use Rattle.x28_commands.specs.declared.command.Command.{Command}
use Rattle.x28_commands.specs.declared.command.Command.TheVariants as command
use Rattle.x28_commands.specs.declared.command.Selection.{Selection}
use Rattle.x28_commands.specs.declared.keyword.Keyword.{Keyword}
use Rattle.x28_commands.specs.declared.fault.CommandFault.TheVariants.{BadAddress, TooLong}
use Rattle.x28_commands.proofs.Grammar.{both_true}
use Rattle.x28_commands.proofs.Arguments.{keyword_found, arguments_found, with_ok}
use Rattle.x28_commands.proofs.Lines.{run_passes, spaces_whole, trimmed_whole}

-- ---- selections

marked : (a b : Bool) (o : ℕ) → (o == 0x44) ≡ a → (o == 0x50) ≡ b → (a || b) ≡ true → (o ≡ 0x44) ⊎ (o ≡ 0x50)
marked true b o p q h = inl (eqb-true o 0x44 p)
marked false true o p q h = inr (eqb-true o 0x50 q)
marked false false o p q h = cc

user_data_found : (rest : List ℕ) → has_user_data rest ≡ true → length (drop 1 rest) ≤ 12 → UserData rest (drop 1 rest)
user_data_found [] h few = let no : false ≡ true = h in cc
user_data_found (o ∷ os) h few =
    let now = both_true _ (list_all is_graphic os) h in
    some o (marked (o == 0x44) (o == 0x50) o refl refl now.0) now.1 few

-- an address was read, and the rest is spaces or user data
abbrev Said : Result (List ℕ) AddressFault → List ℕ → Selection → Type 0
Said found rest s = (found ≡ Ok s.address) × UserData rest s.user_data.items

selection_found : (found : Result (List ℕ) AddressFault) (rest : List ℕ) (s : Selection) → selection_with found rest ≡ Ok s →
    Said found rest s
selection_found (Err f) rest s h = cc
selection_found (Ok a) rest s h = blank (is_blank rest) refl h
  where
    long : (b : Bool) → nat_lt 12 (length (drop 1 rest)) ≡ b → has_user_data rest ≡ true →
        cond b (Err TooLong) (Ok (selection a (drop 1 rest))) ≡ Ok s → Said (Ok a) rest s
    long true few marks g = cc
    long false few marks g =
        let is : selection a (drop 1 rest) ≡ s = cc in
        let P : Selection → Type 0 = λ x. Said (Ok a) rest x in
        subst P is (refl, user_data_found rest marks (ltb-false _ _ few))

    data_in : (b : Bool) → has_user_data rest ≡ b →
        cond b (cond (nat_lt 12 (length (drop 1 rest))) (Err TooLong) (Ok (selection a (drop 1 rest)))) (Err BadAddress) ≡ Ok s →
        Said (Ok a) rest s
    data_in true marks g = long (nat_lt 12 (length (drop 1 rest))) refl marks g
    data_in false marks g = cc

    blank : (b : Bool) → is_blank rest ≡ b →
        cond b (Ok (selection a [])) (cond (has_user_data rest) (cond (nat_lt 12 (length (drop 1 rest))) (Err TooLong) (Ok (selection a (drop 1 rest)))) (Err BadAddress)) ≡ Ok s →
        Said (Ok a) rest s
    blank true is_blank_rest g =
        let is : selection a [] ≡ s = cc in
        let P : Selection → Type 0 = λ x. Said (Ok a) rest x in
        subst P is (refl, none is_blank_rest)
    blank false other g = data_in (has_user_data rest) refl g

-- ---- lines

selects_found : (line body : List ℕ) (s : Selection) → line ≡ take (run is_space line) line ++ body → selection_of body ≡ Ok s → Selects line s
unfolding selection_of
selects_found line body s whole h =
    let found = selection_found (address_of (digits_of body)) (after_digits body) s h in
    record {
      lead = take (run is_space line) line;
      digits = digits_of body;
      rest = after_digits body;
      whole = whole ∙ ap (λ (xs : List ℕ). take (run is_space line) line ++ xs) (sym (take-append-drop (run is_ascii_digit body) body));
      lead_blank = run_passes is_space line;
      address = found.0;
      user_data = found.1;
    }

worded_found : (line body : List ℕ) (k : Keyword) → line ≡ take (run is_space line) line ++ body → keyword_of (trimmed body) ≡ Some k →
    Worded line k (arguments_of (trimmed body))
worded_found line body k whole h =
    let t : List ℕ = trimmed body in
    let word : List ℕ = take (keyword_length t) t in
    let after : List ℕ = drop (keyword_length t) t in
    let gap : List ℕ = take (run is_space after) after in
    let tail = trimmed_whole body in
    let split : t ≡ word ++ (gap ++ arguments_of t) =
    sym (take-append-drop (keyword_length t) t) ∙ ap (λ (xs : List ℕ). word ++ xs) (spaces_whole after) in
    let all : body ≡ word ++ (gap ++ (arguments_of t ++ tail.0)) =
    tail.2 ∙ ap (λ (xs : List ℕ). xs ++ tail.0) split ∙ append_assoc word (gap ++ arguments_of t) tail.0
    ∙ ap (λ (xs : List ℕ). word ++ xs) (append_assoc gap (arguments_of t) tail.0) in
    record {
      lead = take (run is_space line) line;
      word = word;
      gap = gap;
      trail = tail.0;
      whole = whole ∙ ap (λ (xs : List ℕ). take (run is_space line) line ++ xs) all;
      lead_blank = run_passes is_space line;
      word_is = keyword_found word k h;
      gap_blank = run_passes is_space after;
      trail_blank = tail.1;
    }

worded_form : (line body : List ℕ) (c : Command) (o : Option Keyword) → length line ≤ 64 → line ≡ take (run is_space line) line ++ body →
    keyword_of (trimmed body) ≡ o → command_from o (arguments_of (trimmed body)) ≡ Ok c → CommandForm line c
worded_form line body c None fits whole is h = cc
worded_form line body c (Some k) fits whole is h =
    worded k (arguments_of (trimmed body)) fits (worded_found line body k whole is) (arguments_found k (arguments_of (trimmed body)) c h)

body_form : (line body : List ℕ) (c : Command) → length line ≤ 64 → line ≡ take (run is_space line) line ++ body → command_in body ≡ Ok c →
    CommandForm line c
body_form line [] c fits whole h =
    let is : command.Empty ≡ c = cc in
    let blank : is_blank line ≡ true =
    ap (λ (xs : List ℕ). is_blank xs) (whole ∙ append-nil (take (run is_space line) line)) ∙ run_passes is_space line in
    let P : Command → Type 0 = λ x. CommandForm line x in
    subst P is (empty fits blank)
body_form line (o ∷ os) c fits whole h = go (is_ascii_digit o) h
  where
    go : (b : Bool) → cond b (with command.Select (selection_of (o ∷ os))) (command_from (keyword_of (trimmed (o ∷ os))) (arguments_of (trimmed (o ∷ os)))) ≡ Ok c →
        CommandForm line c
    go true g =
        let found = with_ok command.Select (selection_of (o ∷ os)) c g in
        let P : Command → Type 0 = λ x. CommandForm line x in
        subst P found.2 (selects fits (selects_found line (o ∷ os) found.0 whole found.1))
    go false g = worded_form line (o ∷ os) c (keyword_of (trimmed (o ∷ os))) fits whole refl g

-- what is read is in the grammar
pub command_found : (line : List ℕ) (c : Command) → command_of line ≡ Ok c → CommandForm line c
unfolding command_of
command_found line c h = go (nat_lt line_limit (length line)) refl h
  where
    go : (b : Bool) → nat_lt line_limit (length line) ≡ b → cond b (Err TooLong) (command_in (after_spaces line)) ≡ Ok c → CommandForm line c
    go true long g = cc
    go false short g = body_form line (after_spaces line) c (ltb-false _ _ short) (spaces_whole line) g

pub read_found : (line : List ℕ) (r : Answer) → r ≡ command_of line → IfOk r (CommandForm line)
read_found line (Ok c) h = command_found line c (sym h)
read_found line (Err f) h = tt
