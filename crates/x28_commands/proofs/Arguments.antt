-- Keywords and what follows them: what is read is in the grammar, and what is in the grammar is read.
use Rattle.std.proofs.Common.{◌≡◌, ℕ, ◌≤◌, Bool, true, false, cond, ◌&&◌, ◌==◌, nat_lt, List, [], ◌∷◌, length, map, Option, Some, None, Result, Ok, Err, refl, ap, sym, subst, ◌∙◌, if◌then◌else◌}
use Rattle.std.specs.Prelude.{codes}
use Rattle.std.specs.Option.{option_map_or}
use Rattle.std.specs.Char.{to_ascii_uppercase}
use borrow.Author.Tests.{eqb-true, ltb-false, le-ltb}
use Rattle.arrayvec.specs.ArrayVec.{ArrayVec}
use Rattle.x28_commands.specs.Keywords.{spells, keyword_named}
use Rattle.x28_commands.specs.Numbers.{IsNumber, IsPair, number_of, pair_of, entries}
use Rattle.x28_commands.specs.Reading.{alone, with, number_in, limited, numbers_in, pairs_in, command_from}
use Rattle.x28_commands.specs.CommandForm.{name_of, IsShortList, ArgumentsForm}
use Rattle.x28_commands.specs.CommandForm.ArgumentsForm.{status, clear, interrupt, reset, profile, read_all, read, set, set_and_read}
use Rattle.x28_commands.specs.declared.command.Command.{Command}
use Rattle.x28_commands.specs.declared.command.Command.TheVariants as command
use Rattle.x28_commands.specs.declared.keyword.Keyword.{Keyword}
use Rattle.x28_commands.specs.declared.keyword.Keyword.TheVariants as keyword
use Rattle.x28_commands.specs.declared.fault.CommandFault.{CommandFault}
use Rattle.x28_commands.specs.declared.fault.CommandFault.TheVariants.{BadNumber, TooLong}
use Rattle.x28_commands.proofs.Grammar.{number_found, number_only, number_plain, pair_found, pair_only, pair_plain, list_found, list_only, both_true}

-- ---- keywords

same : List ℕ → List ℕ → Bool
same [] [] = true
same (x ∷ xs) (y ∷ ys) = (x == y) && same xs ys
same [] (y ∷ ys) = false
same (x ∷ xs) [] = false

same_true : (xs ys : List ℕ) → same xs ys ≡ true → xs ≡ ys
unfolding same
same_true [] [] h = refl
same_true (x ∷ xs) (y ∷ ys) h =
    let now = both_true (x == y) (same xs ys) h in
    let here : x ≡ y = eqb-true x y now.0 in
    let rest : xs ≡ ys = same_true xs ys now.1 in
    cc
same_true [] (y ∷ ys) h = cc
same_true (x ∷ xs) [] h = cc

spells_same : (word name : List ℕ) → spells word name ≡ same (map to_ascii_uppercase word) name
unfolding spells same
spells_same [] [] = refl
spells_same (o ∷ os) (n ∷ ns) = rw (spells_same os ns) refl
spells_same [] (n ∷ ns) = refl
spells_same (o ∷ os) [] = refl

-- the first of some keywords that a word in capitals names
pick : List Keyword → List ℕ → Option Keyword
pick [] name = None
pick (k ∷ ks) name = if same name (name_of k) then Some k else pick ks name

keyword_by : List ℕ → Option Keyword
keyword_by name =
    pick (keyword.Status ∷ keyword.Clear ∷ keyword.Interrupt ∷ keyword.Reset ∷ keyword.Profile ∷ keyword.Read ∷ keyword.Set ∷ keyword.SetAndRead ∷ []) name

named_by : (word : List ℕ) → keyword_named word ≡ keyword_by (map to_ascii_uppercase word)
unfolding keyword_by pick
named_by word =
    rw (
      spells_same word (codes "STAT"),
      spells_same word (codes "CLR"),
      spells_same word (codes "INT"),
      spells_same word (codes "RESET"),
      spells_same word (codes "PROF"),
      spells_same word (codes "PAR?"),
      spells_same word (codes "SET"),
      spells_same word (codes "SET?"),
    ) refl

picked : (b : Bool) (name : List ℕ) (j : Keyword) (rest : Option Keyword) (k : Keyword) → same name (name_of j) ≡ b →
    (rest ≡ Some k → name ≡ name_of k) → cond b (Some j) rest ≡ Some k → name ≡ name_of k
picked true name j rest k is later h = let here : j ≡ k = cc in same_true name (name_of j) is ∙ ap name_of here
picked false name j rest k is later h = later h

pick_found : (ks : List Keyword) (name : List ℕ) (k : Keyword) → pick ks name ≡ Some k → name ≡ name_of k
unfolding pick
pick_found [] name k h = cc
pick_found (j ∷ ks) name k h = picked (same name (name_of j)) name j (pick ks name) k refl (pick_found ks name k) h

-- a word that is read as a keyword spells it
pub keyword_found : (word : List ℕ) (k : Keyword) → keyword_named word ≡ Some k → map to_ascii_uppercase word ≡ name_of k
unfolding keyword_by
keyword_found word k h = pick_found _ (map to_ascii_uppercase word) k (sym (named_by word) ∙ h)

of_name : (k : Keyword) → keyword_by (name_of k) ≡ Some k
unfolding keyword_by pick same
of_name keyword.Status = refl
of_name keyword.Clear = refl
of_name keyword.Interrupt = refl
of_name keyword.Reset = refl
of_name keyword.Profile = refl
of_name keyword.Read = refl
of_name keyword.Set = refl
of_name keyword.SetAndRead = refl

-- a word that spells a keyword is read as it
pub keyword_only : (word : List ℕ) (k : Keyword) → map to_ascii_uppercase word ≡ name_of k → keyword_named word ≡ Some k
keyword_only word k h = named_by word ∙ ap keyword_by h ∙ of_name k

-- ---- what follows them

alone_ok : (made : Command) (text : List ℕ) (c : Command) → alone made text ≡ Ok c → (text ≡ []) × (made ≡ c)
alone_ok made [] c h = (refl, cc)
alone_ok made (o ∷ os) c h = cc

pub with_ok : {A : Type 0} → (made : A → Command) (r : Result A CommandFault) (c : Command) → with made r ≡ Ok c → (x : A) × (r ≡ Ok x) × (made x ≡ c)
with_ok made (Ok x) c h = (x, refl, cc)
with_ok made (Err f) c h = cc

number_in_ok : (o : Option ℕ) (n : ℕ) → option_map_or Ok o (Err BadNumber) ≡ Ok n → o ≡ Some n
number_in_ok None n h = cc
number_in_ok (Some m) n h = let is : m ≡ n = cc in ap Some is

guarded_ok : {A : Type 0} → (b : Bool) (v w : ArrayVec A) → cond b (Err TooLong) (Ok v) ≡ Ok w → (b ≡ false) × (v ≡ w)
guarded_ok true v w h = cc
guarded_ok false v w h = (refl, cc)

limited_ok : {A : Type 0} → (o : Option (List A)) (v : ArrayVec A) → limited o ≡ Ok v → (xs : List A) × (o ≡ Some xs) × (length xs ≤ 18) × (record { items = xs } ≡ v)
limited_ok None v h = cc
limited_ok (Some xs) v h =
    let found = guarded_ok (nat_lt 18 (length xs)) (record { items = xs }) v h in
    (xs, refl, ltb-false _ _ found.0, found.1)

alone_form : (k : Keyword) (made : Command) (text : List ℕ) (c : Command) → ArgumentsForm k [] made → alone made text ≡ Ok c → ArgumentsForm k text c
alone_form k made text c form h =
    let found = alone_ok made text c h in
    let P : Command → Type 0 = λ x. ArgumentsForm k [] x in
    let Q : List ℕ → Type 0 = λ t. ArgumentsForm k t c in
    subst Q (sym found.0) (subst P found.1 form)

pairs_form : (k : Keyword) (made : ArrayVec (ℕ × ℕ) → Command) (text : List ℕ) (c : Command) →
    ((ps : List (ℕ × ℕ)) → IsShortList (ℕ × ℕ) IsPair text ps → ArgumentsForm k text (made (record { items = ps }))) →
    with made (pairs_in text) ≡ Ok c → ArgumentsForm k text c
pairs_form k made text c form h =
    let found = with_ok made (pairs_in text) c h in
    let list = limited_ok (entries pair_of text) found.0 found.1 in
    let there = form list.0 (record { list = list_found IsPair pair_of pair_found text list.0 list.1; few = list.2 }) in
    let P : Command → Type 0 = λ x. ArgumentsForm k text x in
    subst P (ap made list.3 ∙ found.2) there

numbers_form : (text : List ℕ) (c : Command) → with command.Read (numbers_in text) ≡ Ok c → ArgumentsForm keyword.Read text c
numbers_form [] c h =
    let is : command.Read (record { items = [] }) ≡ c = cc in
    let P : Command → Type 0 = λ x. ArgumentsForm keyword.Read [] x in
    subst P is read_all
numbers_form (o ∷ os) c h =
    let found = with_ok command.Read (numbers_in (o ∷ os)) c h in
    let list = limited_ok (entries number_of (o ∷ os)) found.0 found.1 in
    let there = read (record { list = list_found IsNumber number_of number_found (o ∷ os) list.0 list.1; few = list.2 }) in
    let P : Command → Type 0 = λ x. ArgumentsForm keyword.Read (o ∷ os) x in
    subst P (ap command.Read list.3 ∙ found.2) there

profile_form : (text : List ℕ) (c : Command) → with command.Profile (number_in text) ≡ Ok c → ArgumentsForm keyword.Profile text c
profile_form text c h =
    let found = with_ok command.Profile (number_in text) c h in
    let P : Command → Type 0 = λ x. ArgumentsForm keyword.Profile text x in
    subst P found.2 (profile (number_found text found.0 (number_in_ok (number_of text) found.0 found.1)))

pub arguments_found : (k : Keyword) (text : List ℕ) (c : Command) → command_from (Some k) text ≡ Ok c → ArgumentsForm k text c
arguments_found keyword.Status text c h = alone_form keyword.Status command.Status text c status h
arguments_found keyword.Clear text c h = alone_form keyword.Clear command.Clear text c clear h
arguments_found keyword.Interrupt text c h = alone_form keyword.Interrupt command.Interrupt text c interrupt h
arguments_found keyword.Reset text c h = alone_form keyword.Reset command.Reset text c reset h
arguments_found keyword.Profile text c h = profile_form text c h
arguments_found keyword.Read text c h = numbers_form text c h
arguments_found keyword.Set text c h = pairs_form keyword.Set command.Set text c (λ ps is. set is) h
arguments_found keyword.SetAndRead text c h = pairs_form keyword.SetAndRead command.SetAndRead text c (λ ps is. set_and_read is) h

some_numbers : (text ns : List ℕ) → entries number_of text ≡ Some ns → length ns ≤ 18 → numbers_in text ≡ Ok (record { items = ns })
unfolding entries number_of
some_numbers [] ns h few = cc
some_numbers (o ∷ os) ns h few = rw (h, le-ltb 18 (length ns) few) refl

pub arguments_only : {k : Keyword} {text : List ℕ} {c : Command} → ArgumentsForm k text c → command_from (Some k) text ≡ Ok c
arguments_only status = refl
arguments_only clear = refl
arguments_only interrupt = refl
arguments_only reset = refl
arguments_only (profile {text = t} {n = n} is) = rw (number_only t n is) refl
arguments_only read_all = refl
arguments_only (read {text = t} {ns = ns} is) =
    rw (some_numbers t ns (list_only IsNumber number_of number_only number_plain is.list) is.few) refl
arguments_only (set {text = t} {ps = ps} is) =
    rw (list_only IsPair pair_of pair_only pair_plain is.list, le-ltb 18 (length ps) is.few) refl
arguments_only (set_and_read {text = t} {ps = ps} is) =
    rw (list_only IsPair pair_of pair_only pair_plain is.list, le-ltb 18 (length ps) is.few) refl
