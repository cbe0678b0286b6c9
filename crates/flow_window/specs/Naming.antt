-- A number of a window names one count, and the difference of two counts is that of their numbers.
use Rattle.std.proofs.Common.{◌≡◌, ℕ, ◌+◌, ◌-◌, ◌*◌, ◌/◌, ◌%◌, ◌<◌, ◌≤◌, sym, ◌∙◌, ap, arith}
use Rattle.std.specs.Prelude.{◌⊎◌}
use Rattle.std.proofs.Common.{inl, inr}
use Rattle.std.proofs.lemmas.Nat.{mod-mul-add, mod_below, div-add-mod'}
use Rattle.std.proofs.lemmas.Bool.{cases_lt}
use Rattle.flow_window.specs.Window.{ahead}
use Rattle.flow_window.specs.Counts.{NamesOne}

-- a modulus that is one more than a number has a number 0
pub has_zero : (highest : ℕ) → 0 < highest + 1
has_zero highest = omega arith

-- two counts with one number that are less than the modulus apart are one
pub one_count : (modulus b c : ℕ) → 0 < modulus → b % modulus ≡ c % modulus → b ≤ c → c < b + modulus → b ≡ c
one_count modulus b c pos e least most = grind arith

not_apart : (m n : ℕ) → (m < n → ⊥) → (n < m → ⊥) → m ≡ n
not_apart m n not_less not_more = omega arith

pub names_one : (modulus : ℕ) → NamesOne modulus
names_one modulus oldest highest number first second fits p q =
    not_apart first second
    (λ less. let e = one_count modulus first second (omega arith) (sym p.is ∙ q.is) (omega arith) (omega arith) in
    omega arith)
    (λ more. let e = one_count modulus second first (omega arith) (sym q.is ∙ p.is) (omega arith) (omega arith) in
    omega arith)

-- a count less than the modulus after another one, by the numbers of both
ahead_before_wrap : (modulus q va d : ℕ) → va + d < modulus → ((q * modulus + (va + d)) % modulus + modulus - va) %
    modulus ≡ d
ahead_before_wrap modulus q va d fits =
    let number : (q * modulus + (va + d)) % modulus ≡ va + d = mod-mul-add q modulus (va + d) fits in
    let sum : va + d + modulus - va ≡ 1 * modulus + d = omega arith in
    rw (number, sum) (mod-mul-add 1 modulus d (omega arith))

ahead_after_wrap : (modulus q va d : ℕ) → va < modulus → d < modulus → modulus ≤ va + d → ((q * modulus + (va + d))
    % modulus + modulus - va) % modulus ≡ d
ahead_after_wrap modulus q va d low small past =
    let again : q * modulus + (va + d) ≡ (q + 1) * modulus + (va + d - modulus) = omega arith in
    let number : ((q + 1) * modulus + (va + d - modulus)) % modulus ≡ va + d - modulus = mod-mul-add (q + 1)
    modulus (va + d - modulus) (omega arith) in
    let sum : va + d - modulus + modulus - va ≡ 0 * modulus + d = omega arith in
    rw (again, number, sum) (mod-mul-add 0 modulus d small)

ahead_by : (modulus q va d : ℕ) → va < modulus → d < modulus → (va + d < modulus) ⊎ (modulus ≤ va + d) → ((q *
    modulus + (va + d)) % modulus + modulus - va) % modulus ≡ d
ahead_by modulus q va d low small (inl fits) = ahead_before_wrap modulus q va d fits
ahead_by modulus q va d low small (inr past) = ahead_after_wrap modulus q va d low small past

-- a number that names a count is as far ahead of the oldest number as the count is ahead of the oldest count
pub ahead_is : (modulus a b va nr : ℕ) → va ≡ a % modulus → nr ≡ b % modulus → a ≤ b → b < a + modulus → ahead
    modulus va nr ≡ b - a
ahead_is modulus a b va nr e f least most =
    let pos : 0 < modulus = omega arith in
    let low : a % modulus < modulus = mod_below a modulus pos in
    let whole : a / modulus * modulus + a % modulus ≡ a = div-add-mod' a modulus in
    let b_is : a / modulus * modulus + (a % modulus + (b - a)) ≡ b = omega arith in
    rw (e, f) (ap (λ n. (n % modulus + modulus - a % modulus) % modulus) (sym b_is)
    ∙ ahead_by modulus (a / modulus) (a % modulus) (b - a) low (omega arith) (cases_lt (a % modulus + (b - a))
    modulus))
