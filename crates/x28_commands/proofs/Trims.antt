-- Texts without their trailing spaces.
use Rattle.std.proofs.Common.{◌≡◌, ℕ, ◌+◌, ◌-◌, ◌<◌, ◌≤◌, true, false, List, [], ◌∷◌, ◌++◌, length, take, get_or, refl, ap, sym, ◌∙◌, arith}
use Rattle.std.proofs.lemmas.List.{take_more}
use Rattle.x28_commands.specs.Words.{is_space, trimmed, before_trimmed}

taken : (text : List ℕ) (n : ℕ) → 0 < n → n ≤ length text → take n text ≡ take (n - 1) text ++ get_or text (n - 1) 0 ∷ []
taken text n some within =
    let back : n - 1 + 1 ≡ n = omega arith in
    ap (λ k. take k text) (sym back) ∙ take_more text (n - 1) 0 (omega arith)

-- a space more at the end
pub trimmed_space : (text : List ℕ) (o : ℕ) → is_space o ≡ true → trimmed (text ++ o ∷ []) ≡ trimmed text
unfolding trimmed
trimmed_space [] o h = rw h refl
trimmed_space (x ∷ xs) o h = rw (trimmed_space xs o h) refl

before_some : (o : ℕ) (xs : List ℕ) (y : ℕ) → before_trimmed o (xs ++ y ∷ []) ≡ o ∷ xs ++ y ∷ []
before_some o [] y = refl
before_some o (x ∷ xs) y = refl

-- another octet at the end
pub trimmed_other : (text : List ℕ) (o : ℕ) → is_space o ≡ false → trimmed (text ++ o ∷ []) ≡ text ++ o ∷ []
unfolding trimmed
trimmed_other [] o h = rw h refl
trimmed_other (x ∷ xs) o h = rw (trimmed_other xs o h) (before_some x xs o)

-- the loop over the end: one octet more, which is a space, or another one
pub trimmed_take_space : (text : List ℕ) (n : ℕ) → 0 < n → n ≤ length text → is_space (get_or text (n - 1) 0) ≡ true →
    trimmed (take (n - 1) text) ≡ trimmed (take n text)
trimmed_take_space text n some within h =
    let whole : take n text ≡ take (n - 1) text ++ get_or text (n - 1) 0 ∷ [] = taken text n some within in
    sym (trimmed_space (take (n - 1) text) _ h) ∙ sym (ap trimmed whole)

pub trimmed_take_other : (text : List ℕ) (n : ℕ) → 0 < n → n ≤ length text → is_space (get_or text (n - 1) 0) ≡ false →
    trimmed (take n text) ≡ take n text
trimmed_take_other text n some within h =
    let whole : take n text ≡ take (n - 1) text ++ get_or text (n - 1) 0 ∷ [] = taken text n some within in
    ap trimmed whole ∙ trimmed_other (take (n - 1) text) _ h ∙ sym whole
