-- Command lines: what is read is in the grammar, and what is in the grammar is read.
use Rattle.std.proofs.Common.{◌≡◌, ℕ, suc, Bool, true, false, not, List, [], ◌∷◌, ◌++◌, length, take, drop, refl, ap, sym, ◌∙◌, arith, append_assoc}
use Rattle.std.specs.List.{list_all}
use Rattle.std.proofs.lemmas.List.{take-append-drop, append-nil}
use borrow.Author.Tests.{not-true}
use Rattle.x28_commands.specs.Words.{is_space, is_blank, run, after_spaces, trimmed, before_trimmed}
use Rattle.x28_commands.proofs.Grammar.{both_true}
use Rattle.x28_commands.proofs.Trims.{trimmed_space}

-- ---- runs at the front

-- the octet at the front fails the test, or there is none
abbrev pub Stops : (ℕ → Bool) → List ℕ → Type 0
Stops p [] = Unit {0}
Stops p (o ∷ os) = p o ≡ false

pub run_all : (p : ℕ → Bool) (xs ys : List ℕ) → list_all p xs ≡ true → Stops p ys → run p (xs ++ ys) ≡ length xs
run_all p [] [] h stops = refl
run_all p [] (y ∷ ys) h stops = rw stops refl
run_all p (x ∷ xs) ys h stops =
    let now = both_true (p x) (list_all p xs) h in
    rw (now.0, run_all p xs ys now.1 stops) (omega arith)

run_count : (p : ℕ → Bool) (x : ℕ) (xs : List ℕ) → p x ≡ true → run p (x ∷ xs) ≡ suc (run p xs)
run_count p x xs h = rw h (omega arith)

run_passes_more : (p : ℕ → Bool) (x : ℕ) (xs : List ℕ) (b : Bool) → p x ≡ b → list_all p (take (run p xs) xs) ≡ true →
    list_all p (take (run p (x ∷ xs)) (x ∷ xs)) ≡ true
run_passes_more p x xs true h rest = ap (λ n. list_all p (take n (x ∷ xs))) (run_count p x xs h) ∙ rw h rest
run_passes_more p x xs false h rest = rw h refl

pub run_passes : (p : ℕ → Bool) (text : List ℕ) → list_all p (take (run p text) text) ≡ true
run_passes p [] = refl
run_passes p (x ∷ xs) = run_passes_more p x xs (p x) refl (run_passes p xs)

-- ---- spaces

pub after_blank : (lead text : List ℕ) → is_blank lead ≡ true → after_spaces (lead ++ text) ≡ after_spaces text
after_blank [] text h = refl
after_blank (o ∷ os) text h =
    let now = both_true (is_space o) (is_blank os) h in
    ap (λ n. drop n (o ∷ (os ++ text))) (run_count is_space o (os ++ text) now.0) ∙ after_blank os text now.1

pub after_none : (text : List ℕ) → Stops is_space text → after_spaces text ≡ text
after_none [] stops = refl
after_none (o ∷ os) stops = rw stops refl

-- the spaces in front, and the rest
pub spaces_whole : (text : List ℕ) → text ≡ take (run is_space text) text ++ after_spaces text
spaces_whole text = sym (take-append-drop (run is_space text) text)

-- ---- trailing spaces

before_part : (o : ℕ) (trim : List ℕ) (os trail : List ℕ) → is_blank trail ≡ true → os ≡ trim ++ trail →
    (more : List ℕ) × (is_blank more ≡ true) × (o ∷ os ≡ before_trimmed o trim ++ more)
before_part o [] os trail h e = go (is_space o) refl
  where
    go : (b : Bool) → is_space o ≡ b → (more : List ℕ) × (is_blank more ≡ true) × (o ∷ os ≡ before_trimmed o [] ++ more)
    go true s = (o ∷ trail, rw s h, rw s (ap (λ (xs : List ℕ). o ∷ xs) e))
    go false s = (trail, h, rw s (ap (λ (xs : List ℕ). o ∷ xs) e))
before_part o (x ∷ xs) os trail h e = (trail, h, ap (λ (ys : List ℕ). o ∷ ys) e)

-- a text is what is left of it without trailing spaces, and spaces
pub trimmed_whole : (text : List ℕ) → (trail : List ℕ) × (is_blank trail ≡ true) × (text ≡ trimmed text ++ trail)
unfolding trimmed
trimmed_whole [] = ([], refl, refl)
trimmed_whole (o ∷ os) =
    let rest = trimmed_whole os in
    before_part o (trimmed os) os rest.0 rest.1 rest.2

pub trimmed_blank : (trail text : List ℕ) → is_blank trail ≡ true → trimmed (text ++ trail) ≡ trimmed text
trimmed_blank [] text h = ap trimmed (append-nil text)
trimmed_blank (o ∷ os) text h =
    let now = both_true (is_space o) (is_blank os) h in
    ap trimmed (sym (append_assoc text (o ∷ []) os)) ∙ trimmed_blank os (text ++ o ∷ []) now.1 ∙ trimmed_space text o now.0

-- a text without spaces is as it was
pub trimmed_solid : (text : List ℕ) → list_all (λ o. not (is_space o)) text ≡ true → trimmed text ≡ text
unfolding trimmed
trimmed_solid [] h = refl
trimmed_solid (o ∷ os) h =
    let now = both_true (not (is_space o)) (list_all (λ x. not (is_space x)) os) h in
    rw (trimmed_solid os now.1) (whole os (not-true _ now.0))
  where
    whole : (xs : List ℕ) → is_space o ≡ false → before_trimmed o xs ≡ o ∷ xs
    whole [] s = rw s refl
    whole (x ∷ xs) s = refl

-- so is one that ends with one
pub trimmed_ends : (front text : List ℕ) (x : ℕ) (xs : List ℕ) → text ≡ x ∷ xs → trimmed text ≡ text → trimmed (front ++ text) ≡ front ++ text
unfolding trimmed
trimmed_ends [] text x xs e h = h
trimmed_ends (o ∷ os) text x xs e h = rw (trimmed_ends os text x xs e h) (some o os)
  where
    some : (o : ℕ) (os : List ℕ) → before_trimmed o (os ++ text) ≡ o ∷ (os ++ text)
    some o [] = rw e refl
    some o (y ∷ ys) = refl
