-- The parts of a text between separators, and lists of entries.
use Rattle.std.proofs.Common.{◌≡◌, ℕ, suc, ◌+◌, ◌≤◌, Bool, true, false, cond, List, [], ◌∷◌, ◌++◌, length, take, drop, Option, Some, None, refl, ap, sym, ◌∙◌, subst, arith, append_assoc, ◌==◌}
use Rattle.std.specs.Prelude.{position, nat_lt}
use Rattle.std.specs.List.{slice_split, position_or_len}
use Rattle.std.proofs.lemmas.List.Splits.{slice_split_first}
use borrow.Author.Tests.{ltb-true, ltb-false}
use Rattle.x28_commands.specs.Numbers.{with_first, entries}
use Rattle.x28_commands.specs.Lists.{Cuts}
use denote.Ref.{Bor}

none_in : (b : Bool) (i n : ℕ) → cond b (Some i) None ≡ None → b ≡ false
none_in false i n h = refl
none_in true i n h = cc

some_in : (b : Bool) (i at : ℕ) → cond b (Some i) None ≡ Some at → (b ≡ true) × (i ≡ at)
some_in true i at h = (refl, cc)
some_in false i at h = cc

no_parts_step : (p : ℕ → Bool) (x : ℕ) (xs : List ℕ) (b : Bool) → p x ≡ b →
    (length xs ≤ position_or_len p xs → slice_split p xs ≡ xs ∷ []) →
    length (x ∷ xs) ≤ position_or_len p (x ∷ xs) → slice_split p (x ∷ xs) ≡ (x ∷ xs) ∷ []
no_parts_step p x xs true h rest le =
    let none : suc (length xs) ≤ 0 = rw h at le in absurd (omega arith)
no_parts_step p x xs false h rest le =
    let some : suc (length xs) ≤ 1 + position_or_len p xs = rw h at le in
    rw (h, rest (omega arith)) refl

no_parts : (p : ℕ → Bool) (text : List ℕ) → length text ≤ position_or_len p text → slice_split p text ≡ text ∷ []
no_parts p [] le = refl
no_parts p (x ∷ xs) le = no_parts_step p x xs (p x) refl (no_parts p xs) le

-- where no octet is a separator
pub cut_none : (p : ℕ → Bool) (text : List ℕ) → position p text ≡ None → slice_split p text ≡ text ∷ []
cut_none p text h = no_parts p text (ltb-false _ _ (none_in _ _ 0 h))

-- at the first separator
pub cut_at : (p : ℕ → Bool) (text : List ℕ) (place : ℕ) → position p text ≡ Some place →
    slice_split p text ≡ take place text ∷ slice_split p (drop (place + 1) text)
cut_at p text place h =
    let found : (nat_lt (position_or_len p text) (length text) ≡ true) × (position_or_len p text ≡ place) = some_in _ _ place h in
    let P : ℕ → Type 0 = λ k. slice_split p text ≡ take k text ∷ slice_split p (drop (k + 1) text) in
    subst P found.1 (slice_split_first p text 0 (ltb-true _ _ found.0))

-- ---- lists of entries

-- the entries so far, and then those of the rest
abbrev pub with_front : {A : Type 0} → List A → Option (List A) → Option (List A)
with_front front None = None
with_front front (Some xs) = Some (front ++ xs)

front_more : {A : Type 0} → (front : List A) (x : A) (rest : Option (List A)) →
    with_front (front ++ x ∷ []) rest ≡ with_front front (with_first (Some x) rest)
front_more front x None = refl
front_more front x (Some xs) = ap Some (append_assoc front (x ∷ []) xs)

-- an entry that is followed by a separator
pub entries_more : {A : Type 0} → (read : List ℕ → Option A) (front : List A) (text part rest : List ℕ) (x : A) →
    slice_split (λ o. o == 0x2C) text ≡ part ∷ slice_split (λ o. o == 0x2C) rest → read part ≡ Some x →
    with_front (front ++ x ∷ []) (entries read rest) ≡ with_front front (entries read text)
unfolding entries
entries_more read front text part rest x cut said =
    rw (cut, said) (front_more front x _)

-- the last entry
pub entries_last : {A : Type 0} → (read : List ℕ → Option A) (front : List A) (text part : List ℕ) (x : A) →
    slice_split (λ o. o == 0x2C) text ≡ part ∷ [] → read part ≡ Some x →
    with_front front (entries read text) ≡ Some (front ++ x ∷ [])
unfolding entries
entries_last read front text part x cut said = rw (cut, said) refl

-- no entry where one has to be
pub entries_none : {A : Type 0} → (read : List ℕ → Option A) (front : List A) (text part : List ℕ) (parts : List (List ℕ)) →
    slice_split (λ o. o == 0x2C) text ≡ part ∷ parts → read part ≡ None →
    with_front front (entries read text) ≡ None
unfolding entries
entries_none read front text part parts cut said = rw (cut, said) refl

-- the loop over the entries: no entry where one has to be, one more, the last
pub reads_none : {A : Type 0} → (read : List ℕ → Option A) (front : List A) (all text part : List ℕ) (after : Option (Bor (List ℕ))) →
    Cuts 0x2C text part after → read part ≡ None → with_front front (entries read text) ≡ entries read all → entries read all ≡ None
reads_none read front all text part None cut said whole = sym whole ∙ entries_none read front text part [] cut said
reads_none read front all text part (Some rest) cut said whole = sym whole ∙ entries_none read front text part _ cut said

pub reads_more : {A : Type 0} → (read : List ℕ → Option A) (front : List A) (all text part : List ℕ) (rest : Bor (List ℕ)) (x : A) →
    Cuts 0x2C text part (Some rest) → read part ≡ Some x → with_front front (entries read text) ≡ entries read all →
    with_front (front ++ x ∷ []) (entries read rest.now) ≡ entries read all
reads_more read front all text part rest x cut said whole = entries_more read front text part rest.now x cut said ∙ whole

pub reads_last : {A : Type 0} → (read : List ℕ → Option A) (front : List A) (all text part : List ℕ) (x : A) →
    Cuts 0x2C text part None → read part ≡ Some x → with_front front (entries read text) ≡ entries read all →
    entries read all ≡ Some (front ++ x ∷ [])
reads_last read front all text part x cut said whole = sym whole ∙ entries_last read front text part x cut said
