-- What is left of the front of a list.
use Rattle.std.proofs.Common.{◌≡◌, ℕ, ◌+◌, ◌-◌, ◌≤◌, List, take, drop, length, sym, ap, ◌∙◌, length-drop, length-take-le}
use Rattle.std.specs.Prelude.{min}
use Rattle.std.proofs.lemmas.List.{drop-drop, drop_min}

-- of what is left from a place on of a front, as many more go as there are
pub drop_within : (from to count : ℕ) (xs : List ℕ) → to ≤ length xs →
    drop (from + min count (to - from)) (take to xs) ≡ drop count (drop from (take to xs))
drop_within from to count xs fits =
    let front = take to xs in
    let long : length (drop from front) ≡ to - from = length-drop from front ∙ ap (λ n. n - from) (length-take-le to xs fits) in
    sym (drop-drop (min count (to - from)) from front)
    ∙ ap (λ n. drop (min count n) (drop from front)) (sym long)
    ∙ drop_min count (drop from front)
