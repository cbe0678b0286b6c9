-- The numbers of commands (X.28 3.2): of 1 to 3 digits and at most 255, and lists of them.
use Rattle.std.specs.Prelude.{◌≡◌, ℕ, ◌+◌, ◌-◌, ◌*◌, ◌≤◌, ◌&&◌, ◌==◌, nat_le, if◌then◌else◌, List, [], ◌∷◌, ◌++◌}
use Rattle.std.specs.Prelude.{length, take, drop, map, fold, position, Option, Some, None, IsTrue}
use Rattle.std.specs.List.{list_all, slice_split}
use Rattle.std.specs.Char.{is_ascii_digit}

-- what digits are worth
abbrev pub decimal : List ℕ → ℕ
decimal digits = fold (λ n digit. 10 * n + (digit - 48)) 0 digits

-- the text says the number
pub record IsNumber (text : List ℕ) (n : ℕ) : Type 0 where
  pub some : 1 ≤ length text
  pub short : length text ≤ 3
  pub digits : IsTrue (list_all is_ascii_digit text)
  pub value : decimal text ≡ n
  pub octet : n ≤ 255

-- the text says the pair: two numbers with a colon between them
pub record IsPair (text : List ℕ) (pair : ℕ × ℕ) : Type 0 where
  pub left : List ℕ
  pub right : List ℕ
  pub whole : text ≡ left ++ 0x3A ∷ right
  pub number : IsNumber left pair.0
  pub value : IsNumber right pair.1

-- the text says the list: entries with a comma between each and the next
pub data IsList (A : Type 0) (Entry : List ℕ → A → Type 0) : List ℕ → List A → Type 0 where
  last : {text : List ℕ} {x : A} → Entry text x → IsList A Entry text (x ∷ [])
  more : {text rest : List ℕ} {x : A} {xs : List A} → Entry text x → IsList A Entry rest xs
      → IsList A Entry (text ++ 0x2C ∷ rest) (x ∷ xs)

-- ---- the same, read

unfoldable pub number_of : List ℕ → Option ℕ
number_of text =
    if nat_le 1 (length text) && nat_le (length text) 3 && list_all is_ascii_digit text && nat_le (decimal text) 255
    then Some (decimal text)
    else None

abbrev pub both : {A B : Type 0} → Option A → Option B → Option (A × B)
both (Some a) (Some b) = Some (a, b)
both (Some a) None = None
both None b = None

abbrev pub pair_at : Option ℕ → List ℕ → Option (ℕ × ℕ)
pair_at None text = None
pair_at (Some colon) text = both (number_of (take colon text)) (number_of (drop (colon + 1) text))

-- two numbers, the first up to the first colon
unfoldable pub pair_of : List ℕ → Option (ℕ × ℕ)
pair_of text = pair_at (position (λ o. o == 0x3A) text) text

-- all of them, where each is there
abbrev pub with_first : {A : Type 0} → Option A → Option (List A) → Option (List A)
with_first (Some x) (Some xs) = Some (x ∷ xs)
with_first (Some x) None = None
with_first None xs = None

abbrev pub all_of : {A : Type 0} → List (Option A) → Option (List A)
all_of [] = Some []
all_of (x ∷ xs) = with_first x (all_of xs)

-- the entries between the commas
unfoldable pub entries : {A : Type 0} → (List ℕ → Option A) → List ℕ → Option (List A)
entries read text = all_of (map read (slice_split (λ o. o == 0x2C) text))
