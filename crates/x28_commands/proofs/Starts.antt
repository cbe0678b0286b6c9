-- The texts that follow keywords: each is empty, or begins with a digit and has no spaces.
use Rattle.std.proofs.Common.{◌≡◌, ℕ, ◌≤◌, ◌⊎◌, inl, inr, true, not, List, [], ◌∷◌, ◌++◌, refl, ap, sym, subst, ◌∙◌, arith}
use Rattle.std.specs.List.{list_all}
use Rattle.std.specs.Char.{is_ascii_digit}
use Rattle.std.proofs.lemmas.List.Folds.{list_all-append}
use Rattle.x28_commands.specs.Words.{is_space}
use Rattle.x28_commands.specs.Numbers.{IsNumber, IsPair, IsList}
use Rattle.x28_commands.specs.Numbers.IsList.{last, more}
use Rattle.x28_commands.specs.CommandForm.{ArgumentsForm}
use Rattle.x28_commands.specs.CommandForm.ArgumentsForm.{status, clear, interrupt, reset, profile, read_all, read, set, set_and_read}
use Rattle.x28_commands.specs.declared.command.Command.{Command}
use Rattle.x28_commands.specs.declared.keyword.Keyword.{Keyword}
use Rattle.x28_commands.proofs.Grammar.{both_true, digit_bounds, apart, all_implied}

-- the text begins with a digit and has no spaces
pub record Starts (text : List ℕ) : Type 0 where
  pub digit : ℕ
  pub rest : List ℕ
  pub whole : text ≡ digit ∷ rest
  pub is_digit : is_ascii_digit digit ≡ true
  pub solid : list_all (λ o. not (is_space o)) text ≡ true

digits_solid : (xs : List ℕ) → list_all is_ascii_digit xs ≡ true → list_all (λ o. not (is_space o)) xs ≡ true
digits_solid xs h =
    all_implied is_ascii_digit (λ o. not (is_space o)) xs (λ o d. let low : 48 ≤ o = (digit_bounds o d).0 in apart o 0x20 (omega arith)) h

number_starts : (t : List ℕ) (n : ℕ) → IsNumber t n → Starts t
number_starts [] n is = absurd (omega (arith, is.some))
number_starts (x ∷ xs) n is =
    let now = both_true (is_ascii_digit x) (list_all is_ascii_digit xs) is.digits in
    record { digit = x; rest = xs; whole = refl; is_digit = now.0; solid = digits_solid (x ∷ xs) is.digits }

-- another part after it, with an octet between that is no space
joined : (text : List ℕ) (y : ℕ) (ys : List ℕ) → not (is_space y) ≡ true → list_all (λ o. not (is_space o)) ys ≡ true → Starts text → Starts (text ++ y ∷ ys)
joined text y ys h rest s = record {
  digit = s.digit;
  rest = s.rest ++ y ∷ ys;
  whole = ap (λ (xs : List ℕ). xs ++ y ∷ ys) s.whole;
  is_digit = s.is_digit;
  solid = list_all-append (λ o. not (is_space o)) text (y ∷ ys) ∙ rw (s.solid, h, rest) refl;
}

pair_starts : (t : List ℕ) (p : ℕ × ℕ) → IsPair t p → Starts t
pair_starts t p is =
    let P : List ℕ → Type 0 = λ xs. Starts xs in
    subst P (sym is.whole)
    (joined is.left 0x3A is.right refl (digits_solid is.right is.value.digits) (number_starts is.left p.0 is.number))

list_starts : {A : Type 0} → (Entry : List ℕ → A → Type 0) → ((t : List ℕ) (x : A) → Entry t x → Starts t) →
    {text : List ℕ} {xs : List A} → IsList A Entry text xs → Starts text
list_starts Entry starts (last {text = t} {x = x} e) = starts t x e
list_starts Entry starts (more {text = t} {rest = r} {x = x} e l) =
    joined t 0x2C r refl (list_starts Entry starts l).solid (starts t x e)

pub arguments_start : {k : Keyword} {text : List ℕ} {c : Command} → ArgumentsForm k text c → (text ≡ []) ⊎ Starts text
arguments_start status = inl refl
arguments_start clear = inl refl
arguments_start interrupt = inl refl
arguments_start reset = inl refl
arguments_start (profile {text = t} {n = n} is) = inr (number_starts t n is)
arguments_start read_all = inl refl
arguments_start (read is) = inr (list_starts IsNumber number_starts is.list)
arguments_start (set is) = inr (list_starts IsPair pair_starts is.list)
arguments_start (set_and_read is) = inr (list_starts IsPair pair_starts is.list)
