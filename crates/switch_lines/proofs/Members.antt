-- The numbers of a set as a rising list.
use Rattle.std.proofs.Common.{◌≡◌, ℕ, zero, suc, ◌+◌, ◌<◌, ◌≤◌, Bool, true, false, if◌then◌else◌, List, [], ◌∷◌, length}
use Rattle.std.proofs.Common.{refl, sym, ap, ap₂, ◌∙◌, true≢false, arith}
use Rattle.std.specs.Prelude.{slice_get}
use Rattle.number_set.specs.declared.NumberSet.{NumberSet}
use Rattle.number_set.specs.NumberSet.{has, IsFirstOf}
use Rattle.switch_lines.specs.Lines.{SwitchLine}
use Rattle.switch_lines.specs.Switch.{offering_from}
use Rattle.switch_lines.specs.Touched.{members_from, members, offers_on}
use Rattle.switch_lines.proofs.Touched.{is_out, is_same}

-- ---- the first one is taken out

beyond : (s rest : NumberSet) (line : ℕ) → IsFirstOf s line rest → (k count : ℕ) → line < k →
    members_from k count rest ≡ members_from k count s
beyond s rest line first k zero past = refl
beyond s rest line first k (suc count) past =
    ap₂ (λ (b : Bool) (ns : List ℕ). if b then k ∷ ns else ns) (is_same s rest line k first (λ e. omega (arith, e)))
    (beyond s rest line first (suc k) count (omega arith))

first_from : (s rest : NumberSet) (line : ℕ) → IsFirstOf s line rest → (k i count : ℕ) → k + i ≡ line → i < count →
    line ∷ members_from k count rest ≡ members_from k count s
first_from s rest line first k i zero at within = absurd (omega (arith, within))
first_from s rest line first k zero (suc count) at within =
    let here : k ≡ line = omega arith in
    ap₂ (λ (b : Bool) (ns : List ℕ). line ∷ (if b then k ∷ ns else ns)) (ap (λ n. has rest n) here
    ∙ is_out s rest line first) (beyond s rest line first (suc k) count (omega arith))
    ∙ ap (λ (n : ℕ). n ∷ members_from (suc k) count s) (sym here)
    ∙ sym (ap (λ (b : Bool). if b then k ∷ members_from (suc k) count s else members_from (suc k) count s)
    (ap (λ n. has s n) here ∙ first.there))
first_from s rest line first k (suc i) (suc count) at within =
    let out = first.first k (omega arith) in
    ap (λ (b : Bool). line ∷ (if b then k ∷ members_from (suc k) count rest else members_from (suc k) count rest))
    (is_same s rest line k first (λ e. omega (arith, e)) ∙ out)
    ∙ first_from s rest line first (suc k) i count (omega arith) (omega (arith, within))
    ∙ sym (ap (λ (b : Bool). if b then k ∷ members_from (suc k) count s else members_from (suc k) count s) out)

pub first_member : (s rest : NumberSet) (line : ℕ) → IsFirstOf s line rest → line < 64 → line ∷ members rest ≡ members s
unfolding members
first_member s rest line first within = first_from s rest line first 0 line 64 (omega arith) within

-- ---- a set of none, and one of some

none_from : (s : NumberSet) (k count : ℕ) → ((n : ℕ) → has s n ≡ false) → members_from k count s ≡ []
none_from s k zero none = refl
none_from s k (suc count) none =
    ap (λ (b : Bool). if b then k ∷ members_from (suc k) count s else members_from (suc k) count s) (none k)
    ∙ none_from s (suc k) count none

pub no_members : (s : NumberSet) → ((n : ℕ) → has s n ≡ false) → members s ≡ []
unfolding members
no_members s none = none_from s 0 64 none

some_from : (s : NumberSet) (n k i count : ℕ) → k + i ≡ n → i < count → has s n ≡ true →
    1 ≤ length (members_from k count s)
some_from s n k i zero at within is = absurd (omega (arith, within))
some_from s n k i (suc count) at within is =
    by_test (has s k) i at refl (λ j same less. some_from s n (suc k) j count same less is) within
  where
    by_test : (b : Bool) (j : ℕ) → k + j ≡ n → has s k ≡ b →
        ((m : ℕ) → suc k + m ≡ n → m < count → 1 ≤ length (members_from (suc k) count s)) → j < suc count →
        1 ≤ length (if b then k ∷ members_from (suc k) count s else members_from (suc k) count s)
    by_test true j same e more less = omega arith
    by_test false zero same e more less =
        let here : k ≡ n = omega (arith, same) in
        absurd (true≢false (sym is ∙ ap (λ m. has s m) (sym here) ∙ e))
    by_test false (suc j) same e more less = more j (omega (arith, same)) (omega (arith, less))

pub some_members : (s : NumberSet) (n : ℕ) → n < 64 → has s n ≡ true → 1 ≤ length (members s)
unfolding members
some_members s n within is = some_from s n 0 n 64 (omega arith) within is

-- ---- the lines whose links take a packet

are_from : (s : NumberSet) (k count : ℕ) (ls : List SwitchLine) → length ls ≤ count →
    ((i : ℕ) → has s (k + i) ≡ offers_on (slice_get ls i)) → members_from k count s ≡ offering_from k ls
are_from s k zero [] most are = refl
are_from s k zero (l ∷ ls) most are = absurd (omega (arith, most))
are_from s k (suc count) [] most are =
    let here : k + 0 ≡ k = omega arith in
    ap (λ (b : Bool). if b then k ∷ members_from (suc k) count s else members_from (suc k) count s)
    (ap (λ n. has s n) (sym here) ∙ are 0)
    ∙ are_from s (suc k) count [] (omega arith) (λ i. let next : suc k + i ≡ k + suc i = omega arith in
    ap (λ n. has s n) next ∙ are (suc i))
are_from s k (suc count) (l ∷ ls) most are =
    let here : k + 0 ≡ k = omega arith in
    ap₂ (λ (b : Bool) (ns : List ℕ). if b then k ∷ ns else ns) (ap (λ n. has s n) (sym here) ∙ are 0)
    (are_from s (suc k) count ls (omega (arith, most)) (λ i. let next : suc k + i ≡ k + suc i = omega arith in
    ap (λ n. has s n) next ∙ are (suc i)))

pub members_are : (s : NumberSet) (ls : List SwitchLine) → length ls ≤ 64 →
    ((n : ℕ) → has s n ≡ offers_on (slice_get ls n)) → members s ≡ offering_from 0 ls
unfolding members
members_are s ls most are = are_from s 0 64 ls most (λ i. let e : 0 + i ≡ i = omega arith in
    ap (λ n. has s n) e ∙ are i)
