-- What is echoed octet by octet is what is echoed at once.
use Rattle.std.proofs.Common.{◌≡◌, ℕ, ◌+◌, ◌-◌, ◌<◌, ◌≤◌, true, List, [], ◌∷◌, ◌++◌, length, drop, get_or, refl, sym, ap, ap₂, ◌∙◌, arith, append_assoc, length-append, length-drop}
use Rattle.std.proofs.lemmas.List.{append-nil, drop-append-le, drop-drop, drop_all}
use Rattle.pad_editing.specs.Shown.{Shown, shows, shown, shown_octet}
use Rattle.pad_editing.proofs.LaidOut.{shown_more, shown_none}
use Rattle.pad_terminal.specs.Output.{Output, newest, with_echo}

-- what gave way once is not missed later
newest_newest : (xs ys : List ℕ) → newest (newest xs ++ ys) ≡ newest (xs ++ ys)
newest_newest xs ys =
    let over : ℕ = length xs - 1024 in
    let kept : newest xs ++ ys ≡ drop over (xs ++ ys) = sym (drop-append-le over xs ys (omega arith)) in
    let both : length (xs ++ ys) ≡ length xs + length ys = length-append xs ys in
    let left : length (drop over (xs ++ ys)) ≡ length (xs ++ ys) - over = length-drop over (xs ++ ys) in
    ap newest kept ∙ drop-drop (length (drop over (xs ++ ys)) - 1024) over (xs ++ ys)
    ∙ ap (λ (n : ℕ). drop n (xs ++ ys)) (omega (arith, both, left))

abbrev output : List ℕ → ℕ → Output
output text column = record { text = text; column = column }

one_octet : (o : ℕ) (p : List ℕ) (column : ℕ) →
    shown (o ∷ []) true p column ≡ shows ((shown_octet o true p column).text ++ []) (shown_octet o true p column).column
unfolding shown
one_octet o p column = refl

-- one octet more
pub echo_more : (os : List ℕ) (i : ℕ) (p : List ℕ) (now next all : Output) → i < length os →
    next.text ≡ newest (now.text ++ (shown (get_or os i 0 ∷ []) true p now.column).text) →
    next.column ≡ (shown (get_or os i 0 ∷ []) true p now.column).column →
    with_echo (drop i os) p now ≡ all → with_echo (drop (i + 1) os) p next ≡ all
echo_more os i p now next all less text column left =
    let first : Shown = shown_octet (get_or os i 0) true p now.column in
    let rest : Shown = shown (drop (i + 1) os) true p first.column in
    let here : shown (drop i os) true p now.column ≡ shows (first.text ++ rest.text) rest.column =
    shown_more os true p now.column i less in
    let single : shown (get_or os i 0 ∷ []) true p now.column ≡ shows (first.text ++ []) first.column =
    one_octet (get_or os i 0) p now.column in
    let text_is : next.text ≡ newest (now.text ++ first.text) =
    text ∙ ap (λ (s : Shown). newest (now.text ++ s.text)) single
    ∙ ap (λ (xs : List ℕ). newest (now.text ++ xs)) (append-nil first.text) in
    let column_is : next.column ≡ first.column = column ∙ ap (λ (s : Shown). s.column) single in
    ap₂ (λ (t : List ℕ) (c : ℕ). with_echo (drop (i + 1) os) p (output t c)) text_is column_is
    ∙ ap (λ (xs : List ℕ). output xs rest.column) (newest_newest (now.text ++ first.text) rest.text)
    ∙ ap (λ (xs : List ℕ). output (newest xs) rest.column) (append_assoc now.text first.text rest.text)
    ∙ sym (ap (λ (s : Shown). output (newest (now.text ++ s.text)) s.column) here) ∙ left

-- no octets
pub echo_none : (p : List ℕ) (now : Output) → length now.text ≤ 1024 → with_echo [] p now ≡ now
echo_none p now within =
    let fits : length (now.text ++ []) - 1024 ≡ 0 = omega (arith, ap (λ (xs : List ℕ). length xs) (append-nil now.text)) in
    ap (λ (s : Shown). output (newest (now.text ++ s.text)) s.column) (shown_none true p now.column)
    ∙ ap (λ (n : ℕ). output (drop n (now.text ++ [])) now.column) fits
    ∙ ap (λ (xs : List ℕ). output xs now.column) (append-nil now.text)

-- all octets
pub echo_all : (os : List ℕ) (i : ℕ) (p : List ℕ) (now all : Output) → length os ≤ i → length now.text ≤ 1024 →
    with_echo (drop i os) p now ≡ all → now ≡ all
echo_all os i p now all over within left =
    sym (ap (λ (xs : List ℕ). with_echo xs p now) (drop_all i os over) ∙ echo_none p now within) ∙ left
