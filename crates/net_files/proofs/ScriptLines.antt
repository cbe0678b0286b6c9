-- The lines of a script, one after the other.
use Rattle.std.proofs.Common.{◌≡◌, ◌≢◌, ℕ, zero, suc, ◌+◌, ◌==◌, List, [], ◌∷◌, ◌++◌, take, drop, Option, Some, None, option_map, refl, ap, sym, subst, ◌∙◌, add-one}
use Rattle.std.proofs.lemmas.Option.{same_Some}
use Rattle.std.specs.Prelude.{slice_get, position}
use Rattle.x28_commands.proofs.Parts.{cut_none, cut_at}
use Rattle.net_files.specs.Cuts.{before, behind, before_place, behind_place}
use Rattle.net_files.specs.Words.{Left}
use Rattle.net_files.specs.Values.{CommandValue}
use Rattle.net_files.specs.CommandForm.{CommandForm}
use Rattle.net_files.specs.Reading.{command_of, commands_of, added, added_one}
use Rattle.net_files.specs.Scripts.{LinesForm, IsFirstBad, lines_of}
use Rattle.net_files.specs.Scripts.LinesForm.{none, skipped, spelled}
use Rattle.net_files.proofs.Found.{command_found}
use Rattle.net_files.proofs.Only.{command_only}

-- the lines that are left
abbrev pub lines_left : Left → List (List ℕ)
lines_left None = []
lines_left (Some text) = lines_of text

-- the first line of a text, and those of what stands behind its end
pub first_line : (text : List ℕ) → lines_of text ≡ before 10 text ∷ lines_left (behind 10 text)
first_line text = go (position (λ octet. octet == 10) text) refl
  where
    go : (o : Option ℕ) → position (λ octet. octet == 10) text ≡ o → lines_of text ≡ before_place o text ∷ lines_left (behind_place o text)
    go None is = cut_none (λ octet. octet == 10) text is
    go (Some place) is = cut_at (λ octet. octet == 10) text place is

-- ---- one line more

pub line_at : (lines : List (List ℕ)) (place : ℕ) (line : List ℕ) (rest : List (List ℕ)) → drop place lines ≡ line ∷ rest → slice_get lines place ≡ Some line
line_at [] zero line rest h = cc
line_at [] (suc place) line rest h = cc
line_at (x ∷ lines) zero line rest h = cc
line_at (x ∷ lines) (suc place) line rest h = line_at lines place line rest h

take_next : (lines : List (List ℕ)) (place : ℕ) (line : List ℕ) (rest : List (List ℕ)) → drop place lines ≡ line ∷ rest
    → take (suc place) lines ≡ take place lines ++ line ∷ []
take_next [] zero line rest h = cc
take_next [] (suc place) line rest h = cc
take_next (x ∷ lines) zero line rest h = let same : x ≡ line = cc in rw same refl
take_next (x ∷ lines) (suc place) line rest h = ap (λ xs. x ∷ xs) (take_next lines place line rest h)

drop_next : (lines : List (List ℕ)) (place : ℕ) (line : List ℕ) (rest : List (List ℕ)) → drop place lines ≡ line ∷ rest → drop (suc place) lines ≡ rest
drop_next [] zero line rest h = cc
drop_next [] (suc place) line rest h = cc
drop_next (x ∷ lines) zero line rest h = cc
drop_next (x ∷ lines) (suc place) line rest h = drop_next lines place line rest h

take_all : (lines : List (List ℕ)) (place : ℕ) → drop place lines ≡ [] → take place lines ≡ lines
take_all [] zero h = refl
take_all [] (suc place) h = refl
take_all (x ∷ lines) zero h = cc
take_all (x ∷ lines) (suc place) h = ap (λ xs. x ∷ xs) (take_all lines place h)

pub more_lines : {names lines others : List (List ℕ)} {commands more : List CommandValue}
    → LinesForm names lines commands → LinesForm names others more → LinesForm names (lines ++ others) (commands ++ more)
more_lines none rest = rest
more_lines (skipped form) rest = skipped (more_lines form rest)
more_lines (spelled form forms) rest = spelled form (more_lines forms rest)

-- the commands of so many lines, and what is left of the text
pub record IsReadTo (names lines : List (List ℕ)) (number : ℕ) (left : Left) (commands : List CommandValue) : Type 0 where
  pub front : LinesForm names (take number lines) commands
  pub rest : drop number lines ≡ lines_left left

pub read_all : (names lines : List (List ℕ)) (number : ℕ) (commands : List CommandValue) → IsReadTo names lines number None commands
    → LinesForm names lines commands
read_all names lines number commands is = subst (λ ls. LinesForm names ls commands) (take_all lines number is.rest) is.front

pub read_next : (names lines : List (List ℕ)) (number : ℕ) (text : List ℕ) (commands more : List CommandValue)
    → IsReadTo names lines number (Some text) commands → LinesForm names (before 10 text ∷ []) more
    → IsReadTo names lines (number + 1) (behind 10 text) (commands ++ more)
read_next names lines number text commands more is form =
    let next : drop number lines ≡ before 10 text ∷ lines_left (behind 10 text) = is.rest ∙ first_line text in
    let front : LinesForm names (take number lines ++ before 10 text ∷ []) (commands ++ more) = more_lines is.front form in
    record {
      front = rw (add-one, take_next lines number (before 10 text) (lines_left (behind 10 text)) next) front;
      rest = rw add-one (drop_next lines number (before 10 text) (lines_left (behind 10 text)) next);
    }

pub next_line : (names lines : List (List ℕ)) (number : ℕ) (text : List ℕ) (commands : List CommandValue)
    → IsReadTo names lines number (Some text) commands → slice_get lines number ≡ Some (before 10 text)
next_line names lines number text commands is =
    line_at lines number (before 10 text) (lines_left (behind 10 text)) (is.rest ∙ first_line text)

-- ---- the command of a line

pub read_line : (names : List (List ℕ)) (line : List ℕ) (commands new : List CommandValue) → added commands (commands_of names line) ≡ Some new
    → (more : List CommandValue) × (LinesForm names (line ∷ []) more) × (new ≡ commands ++ more)
read_line names [] commands new h = ([], skipped none, sym (some_is h))
  where
    some_is : Some (commands ++ []) ≡ Some new → commands ++ [] ≡ new
    some_is g = same_Some _ _ g
read_line names (octet ∷ line) commands new h = go (command_of names (octet ∷ line)) refl h
  where
    go : (o : Option CommandValue) → command_of names (octet ∷ line) ≡ o → added commands (option_map (λ c. c ∷ []) o) ≡ Some new
        → (more : List CommandValue) × (LinesForm names ((octet ∷ line) ∷ []) more) × (new ≡ commands ++ more)
    go None is g = cc
    go (Some value) is g = (value ∷ [], spelled (command_found names (octet ∷ line) value is) none, sym (same_Some _ _ g))

pub read_on : (names lines : List (List ℕ)) (number : ℕ) (text : List ℕ) (commands new : List CommandValue)
    → IsReadTo names lines number (Some text) commands → added commands (commands_of names (before 10 text)) ≡ Some new
    → IsReadTo names lines (number + 1) (behind 10 text) new
read_on names lines number text commands new is h =
    let line = read_line names (before 10 text) commands new h in
    subst (λ cs. IsReadTo names lines (number + 1) (behind 10 text) cs) (sym line.2) (read_next names lines number text commands line.0 is line.1)

no_command : (names : List (List ℕ)) (line : List ℕ) → commands_of names line ≡ None
    → (line ≢ []) × ((value : CommandValue) → ¬ CommandForm names line value)
no_command names [] h = cc
no_command names (octet ∷ line) h = (λ empty. cc, λ value form. go (command_of names (octet ∷ line)) h (command_only form))
  where
    go : {value : CommandValue} (o : Option CommandValue) → option_map (λ c. c ∷ []) o ≡ None → o ≡ Some value → ⊥
    go None g is = cc
    go (Some other) g is = cc

pub bad_line : (names lines : List (List ℕ)) (number : ℕ) (text : List ℕ) (commands : List CommandValue)
    → IsReadTo names lines number (Some text) commands → added commands (commands_of names (before 10 text)) ≡ None
    → IsFirstBad names lines (number + 1)
bad_line names lines number text commands is h =
    let none = no_command names (before 10 text) (go (commands_of names (before 10 text)) h) in
    record {
      place = number;
      counted = refl;
      commands = commands;
      before = is.front;
      line = before 10 text;
      there = next_line names lines number text commands is;
      some = none.0;
      bad = none.1;
    }
  where
    go : (o : Option (List CommandValue)) → added commands o ≡ None → o ≡ None
    go None g = refl
    go (Some more) g = cc

-- the command of a line that is not empty, behind others
pub added_line : (names : List (List ℕ)) (line : List ℕ) (commands : List CommandValue) → line ≢ []
    → added commands (commands_of names line) ≡ added_one commands (command_of names line)
added_line names [] commands some = absurd (some refl)
added_line names (octet ∷ line) commands some = go (command_of names (octet ∷ line))
  where
    go : (o : Option CommandValue) → added commands (option_map (λ c. c ∷ []) o) ≡ added_one commands o
    go None = refl
    go (Some value) = refl
