-- The layout of octets: one octet after another, and one NUL after another.
use Rattle.std.proofs.Common.{◌≡◌, ℕ, ◌+◌, ◌<◌, ◌≤◌, Bool, true, false, not, min, List, [], ◌∷◌, ◌++◌, length, drop, replicate, get_or, refl, ap, sym, ◌∙◌, append_assoc, add-one, drop-cons}
use Rattle.std.proofs.lemmas.List.{replicate-append-replicate, drop_all, append-nil}
use Rattle.std.proofs.lemmas.Bool.{and_parts, not-true}
use Rattle.pad_editing.specs.Shown.{Shown, shows, shown, shown_octet, is_graphic, ends_line, is_plain, last_column}

-- one NUL more
pub padding_more : (xs : List ℕ) (o n : ℕ) → (xs ++ o ∷ replicate n 0) ++ 0 ∷ [] ≡ xs ++ o ∷ replicate (n + 1) 0
padding_more xs o n =
    append_assoc xs (o ∷ replicate n 0) (0 ∷ []) ∙ ap (λ ys. xs ++ o ∷ ys) (replicate-append-replicate n 1 0)

shown_cons : (o : ℕ) (os : List ℕ) (echo : Bool) (p : List ℕ) (column : ℕ) →
    shown (o ∷ os) echo p column
    ≡ shows
    ((shown_octet o echo p column).text ++ (shown os echo p (shown_octet o echo p column).column).text)
    (shown os echo p (shown_octet o echo p column).column).column
unfolding shown
shown_cons o os echo p column = refl

-- the layout of what is left, where an octet is left
pub shown_more : (os : List ℕ) (echo : Bool) (p : List ℕ) (column i : ℕ) → i < length os →
    shown (drop i os) echo p column
    ≡ shows
    ((shown_octet (get_or os i 0) echo p column).text ++ (shown (drop (i + 1) os) echo p (shown_octet (get_or os i 0) echo p column).column).text)
    (shown (drop (i + 1) os) echo p (shown_octet (get_or os i 0) echo p column).column).column
shown_more os echo p column i lt =
    let here : drop i os ≡ get_or os i 0 ∷ drop (i + 1) os = rw (add-one, drop-cons os i 0) refl in
    ap (λ xs. shown xs echo p column) here ∙ shown_cons (get_or os i 0) (drop (i + 1) os) echo p column

-- the layout of nothing
pub shown_none : (echo : Bool) (p : List ℕ) (column : ℕ) → shown [] echo p column ≡ shows [] column
unfolding shown
shown_none echo p column = refl

-- what is laid out so far, with the layout of what is left, is the layout of all
pub record LaysOut (start out : List ℕ) (left all : Shown) : Type 0 where
  pub text : out ++ left.text ≡ start ++ all.text
  pub column : left.column ≡ all.column

-- one octet more
pub lays_out_more : (start out out' os : List ℕ) (echo : Bool) (p : List ℕ) (column column' i : ℕ) (all : Shown) →
    i < length os →
    out' ≡ out ++ (shown_octet (get_or os i 0) echo p column).text →
    column' ≡ (shown_octet (get_or os i 0) echo p column).column →
    LaysOut start out (shown (drop i os) echo p column) all →
    LaysOut start out' (shown (drop (i + 1) os) echo p column') all
lays_out_more start out out' os echo p column column' i all lt text_is column_is h =
    let first : Shown = shown_octet (get_or os i 0) echo p column in
    let rest : Shown = shown (drop (i + 1) os) echo p first.column in
    let here : shown (drop i os) echo p column ≡ shows (first.text ++ rest.text) rest.column = shown_more os echo p column i lt in
    let there : LaysOut start (out ++ first.text) rest all = record {
      text = append_assoc out first.text rest.text ∙ sym (ap (λ (s : Shown). out ++ s.text) here) ∙ h.text;
      column = sym (ap (λ (s : Shown). s.column) here) ∙ h.column;
    } in
    rw (text_is, column_is) there

-- all octets
pub lays_out_all : (start out os : List ℕ) (echo : Bool) (p : List ℕ) (column i : ℕ) (all : Shown) →
    length os ≤ i →
    LaysOut start out (shown (drop i os) echo p column) all →
    (out ≡ start ++ all.text) × (column ≡ all.column)
lays_out_all start out os echo p column i all le h =
    let none : drop i os ≡ [] = drop_all i os le in
    let here : shown (drop i os) echo p column ≡ shows [] column = ap (λ xs. shown xs echo p column) none ∙ shown_none echo p column in (
      sym (append-nil out) ∙ sym (ap (λ (s : Shown). out ++ s.text) here) ∙ h.text,
      sym (ap (λ (s : Shown). s.column) here) ∙ h.column,
    )

-- a graphic character that is not at the end of a line is shown as it stands, in the next column
pub shown_plain : (o : ℕ) (p : List ℕ) (column : ℕ) → is_plain o p column ≡ true →
    (echo : Bool) → shown (o ∷ []) echo p column ≡ shows (o ∷ []) (min (column + 1) last_column)
unfolding shown
shown_plain o p column plain echo =
    let parts : (is_graphic o ≡ true) × (not (ends_line o p column) ≡ true) = and_parts _ _ plain in
    let inside : ends_line o p column ≡ false = not-true _ parts.1 in
    rw (inside, parts.0) refl
