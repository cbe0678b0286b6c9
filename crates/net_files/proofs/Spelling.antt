-- The texts of a script, read from their front.
use Rattle.std.proofs.Common.{◌≡◌, ◌≢◌, ℕ, suc, ◌+◌, ◌*◌, Bool, true, false, cond, ◌==◌, List, [], ◌∷◌, ◌++◌, take, drop, add-one, Option, Some, None, option_map, refl, ap, sym, subst, ◌∙◌, append_assoc}
use Rattle.std.proofs.lemmas.List.{append-nil}
use Rattle.std.proofs.lemmas.Option.{same_Some}
use Rattle.std.specs.Prelude.{position}
use borrow.Author.Tests.{eqb-true, ne_eqb}
use Rattle.net_files.proofs.Places.{position_first, position_next}
use Rattle.net_files.specs.Digits.{hex_value}
use Rattle.net_files.specs.Cuts.{before, behind, before_place, behind_place}
use Rattle.net_files.specs.Texts.{OctetForm, TextForm, EscapeState, Front, Backslash, Digit, octet_at, escaped, with_digit, octets_from, octets_of, in_front, octet_of}
use Rattle.net_files.specs.Texts.OctetForm.{backslash, escape, plain}
use Rattle.net_files.specs.Texts.TextForm.{empty, more}

-- ---- one octet after the other

abbrev read : ℕ → List ℕ → ℕ × List ℕ
read octet rest = (octet, rest)

some_pair : (a : ℕ) (b : List ℕ) (c : ℕ) (d : List ℕ) → Some (read a b) ≡ Some (read c d) → (a ≡ c) × (b ≡ d)
some_pair a b c d h =
    let same : read a b ≡ read c d = same_Some _ _ h in
    (ap (λ (p : ℕ × List ℕ). p.0) same, ap (λ (p : ℕ × List ℕ). p.1) same)

digit_step : (high : Option ℕ) (text : List ℕ) (octet : ℕ) (rest : List ℕ) → with_digit high text ≡ Some (octet, rest)
    → octets_from (Digit high) text ≡ in_front (Some octet) (octets_of rest)
unfolding octets_from
digit_step None text octet rest h = cc
digit_step (Some sixteens) [] octet rest h = cc
digit_step (Some sixteens) (low ∷ behind) octet rest h = go (hex_value low) h
  where
    go : (o : Option ℕ) → option_map (λ ones. read (sixteens * 16 + ones) behind) o ≡ Some (octet, rest)
        → in_front (octet_of (Some sixteens) o) (octets_from Front behind) ≡ in_front (Some octet) (octets_from Front rest)
    go None g = cc
    go (Some ones) g =
        let both : (sixteens * 16 + ones ≡ octet) × (behind ≡ rest) = some_pair _ _ _ _ g in
        rw (both.0, both.1) refl

digit_none : (high : Option ℕ) (text : List ℕ) → with_digit high text ≡ None → octets_from (Digit high) text ≡ None
unfolding octets_from
digit_none None [] h = refl
digit_none None (low ∷ behind) h = refl
digit_none (Some sixteens) [] h = refl
digit_none (Some sixteens) (low ∷ behind) h = go (hex_value low) h
  where
    go : (o : Option ℕ) → option_map (λ ones. read (sixteens * 16 + ones) behind) o ≡ None
        → in_front (octet_of (Some sixteens) o) (octets_from Front behind) ≡ None
    go None g = refl
    go (Some ones) g = cc

pub escape_step : (text : List ℕ) (octet : ℕ) (rest : List ℕ) → escaped text ≡ Some (octet, rest)
    → octets_from Backslash text ≡ in_front (Some octet) (octets_of rest)
unfolding octets_from
escape_step [] octet rest h = cc
escape_step (high ∷ behind) octet rest h = go (high == 92) h
  where
    go : (b : Bool) → cond b (Some (read 92 behind)) (with_digit (hex_value high) behind) ≡ Some (octet, rest)
        → cond b (in_front (Some 92) (octets_from Front behind)) (octets_from (Digit (hex_value high)) behind)
        ≡ in_front (Some octet) (octets_from Front rest)
    go true g = let both : (92 ≡ octet) × (behind ≡ rest) = some_pair _ _ _ _ g in rw (← both.0, both.1) refl
    go false g = digit_step (hex_value high) behind octet rest g

pub escape_none : (text : List ℕ) → escaped text ≡ None → octets_from Backslash text ≡ None
unfolding octets_from
escape_none [] h = refl
escape_none (high ∷ behind) h = go (high == 92) h
  where
    go : (b : Bool) → cond b (Some (read 92 behind)) (with_digit (hex_value high) behind) ≡ None
        → cond b (in_front (Some 92) (octets_from Front behind)) (octets_from (Digit (hex_value high)) behind) ≡ None
    go true g = cc
    go false g = digit_none (hex_value high) behind g

pub octets_step : (text : List ℕ) (octet : ℕ) (rest : List ℕ) → octet_at text ≡ Some (octet, rest)
    → octets_of text ≡ in_front (Some octet) (octets_of rest)
unfolding octets_from
octets_step [] octet rest h = cc
octets_step (first ∷ behind) octet rest h = go (first == 92) h
  where
    go : (b : Bool) → cond b (escaped behind) (Some (read first behind)) ≡ Some (octet, rest)
        → cond b (octets_from Backslash behind) (in_front (Some first) (octets_from Front behind))
        ≡ in_front (Some octet) (octets_from Front rest)
    go true g = escape_step behind octet rest g
    go false g = let both : (first ≡ octet) × (behind ≡ rest) = some_pair _ _ _ _ g in rw (both.0, both.1) refl

-- ---- the loop over a text

-- octets, and then those of the rest
abbrev pub with_front : List ℕ → Option (List ℕ) → Option (List ℕ)
with_front front rest = option_map (λ octets. front ++ octets) rest

-- the octets that are left behind a backslash, none where there is none
abbrev pub octets_left : Option (List ℕ) → Option (List ℕ)
octets_left None = Some []
octets_left (Some behind) = octets_from Backslash behind

with_none : (rest : Option (List ℕ)) → with_front [] rest ≡ rest
with_none None = refl
with_none (Some octets) = refl

one_more : (octet : ℕ) (octets : List ℕ) (place : Option ℕ)
    → in_front (Some octet) (with_front (before_place place octets) (octets_left (behind_place place octets)))
    ≡ with_front (before_place (option_map suc place) (octet ∷ octets)) (octets_left (behind_place (option_map suc place) (octet ∷ octets)))
one_more octet octets None = refl
one_more octet octets (Some place) =
    let behind : drop (suc place + 1) (octet ∷ octets) ≡ drop (place + 1) octets = rw (add-one, add-one) refl in
    rw behind (go (octets_from Backslash (drop (place + 1) octets)))
  where
    go : (rest : Option (List ℕ)) → in_front (Some octet) (with_front (take place octets) rest) ≡ with_front (octet ∷ take place octets) rest
    go None = refl
    go (Some others) = refl

-- a text spells what stands before its first backslash, and then what it spells from there on
pub plain_then : (text : List ℕ) → octets_of text ≡ with_front (before 92 text) (octets_left (behind 92 text))
unfolding octets_from
plain_then [] = refl
plain_then (octet ∷ rest) = go (octet == 92) refl (plain_then rest)
  where
    go : (b : Bool) → (octet == 92) ≡ b → octets_of rest ≡ with_front (before 92 rest) (octets_left (behind 92 rest))
        → cond b (octets_from Backslash rest) (in_front (Some octet) (octets_of rest))
        ≡ with_front (before 92 (octet ∷ rest)) (octets_left (behind 92 (octet ∷ rest)))
    go true is later = rw (position_first (λ o. o == 92) octet rest is) (sym (with_none (octets_from Backslash rest)))
    go false is later =
        rw (position_next (λ o. o == 92) octet rest is, later) (one_more octet rest (position (λ o. o == 92) rest))

front_more : (front added : List ℕ) (rest : Option (List ℕ)) → with_front (front ++ added) rest ≡ with_front front (with_front added rest)
front_more front added None = refl
front_more front added (Some octets) = ap Some (append_assoc front added octets)

-- what stands before the first backslash is added
pub plain_added : (front text octets : List ℕ) (left : Option (List ℕ)) → octets ≡ front ++ before 92 text → left ≡ behind 92 text
    → with_front octets (octets_left left) ≡ with_front front (octets_of text)
plain_added front text octets left is rest =
    rw (is, rest) (front_more front (before 92 text) (octets_left (behind 92 text)) ∙ ap (with_front front) (sym (plain_then text)))

octet_more : (front : List ℕ) (octet : ℕ) (rest : Option (List ℕ)) → with_front (front ++ octet ∷ []) rest ≡ with_front front (in_front (Some octet) rest)
octet_more front octet None = refl
octet_more front octet (Some octets) = ap Some (append_assoc front (octet ∷ []) octets)

-- an octet behind a backslash is added
pub octet_added : (front text rest : List ℕ) (octet : ℕ) → escaped text ≡ Some (octet, rest)
    → with_front (front ++ octet ∷ []) (octets_of rest) ≡ with_front front (octets_left (Some text))
octet_added front text rest octet is =
    octet_more front octet (octets_of rest) ∙ ap (with_front front) (sym (escape_step text octet rest is))

pub all_spelled : (octets : List ℕ) → with_front octets (octets_left None) ≡ Some octets
all_spelled octets = ap Some (append-nil octets)

pub none_spelled : (front text : List ℕ) → escaped text ≡ None → with_front front (octets_left (Some text)) ≡ None
none_spelled front text none = ap (with_front front) (escape_none text none)

-- ---- what is spelled is read

digit_value : (digit value : ℕ) → hex_value digit ≡ Some value → digit ≢ 92
digit_value digit value h is = let backslash : hex_value 92 ≡ Some value = subst (λ d. hex_value d ≡ Some value) is h in cc

octet_only : {text rest : List ℕ} {octet : ℕ} → OctetForm text octet rest → octet_at text ≡ Some (octet, rest)
octet_only (backslash {rest = rest}) = refl
octet_only (escape {high = high} {low = low} sixteens ones {rest = rest} is_high is_low) =
    rw (ne_eqb high 92 (digit_value high sixteens is_high), is_high, is_low) refl
octet_only (plain {octet = octet} {rest = rest} other) = rw (ne_eqb octet 92 other) refl

pub text_only : {text octets : List ℕ} → TextForm text octets → octets_of text ≡ Some octets
unfolding octets_from
text_only empty = refl
text_only (more {text = text} {rest = rest} {octets = octets} {octet = octet} form forms) =
    octets_step text octet rest (octet_only form) ∙ rw (text_only forms) refl

-- ---- what is read is spelled

-- the text from such a place on spells the octets
abbrev Means : EscapeState → List ℕ → List ℕ → Type 0
Means Front text octets = TextForm text octets
Means Backslash text octets = TextForm (92 ∷ text) octets
Means (Digit value) text octets = (high : ℕ) → hex_value high ≡ value → TextForm (92 ∷ high ∷ text) octets

split_front : (octet : Option ℕ) (rest : Option (List ℕ)) (octets : List ℕ) → in_front octet rest ≡ Some octets
    → (first : ℕ) × (others : List ℕ) × (octet ≡ Some first) × (rest ≡ Some others) × (octets ≡ first ∷ others)
split_front None rest octets h = cc
split_front (Some first) None octets h = cc
split_front (Some first) (Some others) octets h = (first, others, refl, refl, cc)

ones_of : (sixteens : Option ℕ) (low : Option ℕ) (octet : ℕ) → octet_of sixteens low ≡ Some octet
    → (s : ℕ) × (ones : ℕ) × (sixteens ≡ Some s) × (low ≡ Some ones) × (octet ≡ s * 16 + ones)
ones_of None low octet h = cc
ones_of (Some s) None octet h = cc
ones_of (Some s) (Some ones) octet h = (s, ones, refl, refl, cc)

different : true ≡ false → ⊥
different e = cc

-- an octet at the front, by what the rest means
front_means : (octet : ℕ) (rest octets : List ℕ) (b : Bool) → (octet == 92) ≡ b
    → (octets_from Backslash rest ≡ Some octets → TextForm (92 ∷ rest) octets)
    → ((others : List ℕ) → octets_from Front rest ≡ Some others → TextForm rest others)
    → cond b (octets_from Backslash rest) (in_front (Some octet) (octets_from Front rest)) ≡ Some octets
    → TextForm (octet ∷ rest) octets
front_means octet rest octets true is escaped plainly h =
    let same : octet ≡ 92 = eqb-true _ _ is in
    subst (λ o. TextForm (o ∷ rest) octets) (sym same) (escaped h)
front_means octet rest octets false is escaped plainly h =
    let parts = split_front (Some octet) (octets_from Front rest) octets h in
    let first : octet ≡ parts.0 = cc in
    let form : OctetForm (octet ∷ rest) octet rest = plain (λ same. let yes : (octet == 92) ≡ true = rw same refl in different (sym yes ∙ is)) in
    rw (parts.4, ← first) (more form (plainly parts.1 parts.3))

-- an octet behind a backslash
behind_means : (high : ℕ) (rest octets : List ℕ) (b : Bool) → (high == 92) ≡ b
    → ((others : List ℕ) → octets_from Front rest ≡ Some others → TextForm rest others)
    → (octets_from (Digit (hex_value high)) rest ≡ Some octets → TextForm (92 ∷ high ∷ rest) octets)
    → cond b (in_front (Some 92) (octets_from Front rest)) (octets_from (Digit (hex_value high)) rest) ≡ Some octets
    → TextForm (92 ∷ high ∷ rest) octets
behind_means high rest octets true is plainly digits h =
    let same : high ≡ 92 = eqb-true _ _ is in
    let parts = split_front (Some 92) (octets_from Front rest) octets h in
    let first : 92 ≡ parts.0 = cc in
    rw (same, parts.4, ← first) (more backslash (plainly parts.1 parts.3))
behind_means high rest octets false is plainly digits h = digits h

means : (place : EscapeState) (text octets : List ℕ) → octets_from place text ≡ Some octets → Means place text octets
unfolding octets_from
means Front [] octets h = let none : [] ≡ octets = cc in subst (λ xs. TextForm [] xs) none empty
means Backslash [] octets h = cc
means (Digit value) [] octets h = cc
means Front (octet ∷ rest) octets h =
    front_means octet rest octets (octet == 92) refl (λ g. means Backslash rest octets g) (λ others g. means Front rest others g) h
means Backslash (high ∷ rest) octets h =
    behind_means high rest octets (high == 92) refl (λ others g. means Front rest others g)
    (λ g. means (Digit (hex_value high)) rest octets g high refl) h
means (Digit value) (low ∷ rest) octets h = λ high is.
    let parts = split_front (octet_of value (hex_value low)) (octets_from Front rest) octets h in
    let digits = ones_of value (hex_value low) parts.0 parts.2 in
    let form : OctetForm (92 ∷ high ∷ low ∷ rest) (digits.0 * 16 + digits.1) rest = escape digits.0 digits.1 (is ∙ digits.2) digits.3 in
    rw (parts.4, digits.4) (more form (means Front rest parts.1 parts.3))

pub text_found : (text octets : List ℕ) → octets_of text ≡ Some octets → TextForm text octets
text_found text octets h = means Front text octets h
