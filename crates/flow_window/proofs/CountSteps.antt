-- What each call makes of the counts that a window shows.
use Rattle.std.proofs.Common.{◌≡◌, ℕ, ◌+◌, ◌-◌, ◌*◌, ◌/◌, ◌%◌, ◌<◌, ◌≤◌, max, refl, sym, ◌∙◌, ap, subst, arith, inl, inr}
use Rattle.std.specs.Prelude.{◌⊎◌, Result, Ok, Err, IsErr, MatchResult}
use Rattle.std.proofs.Math.Nat.{mod-add-mod}
use Rattle.std.proofs.lemmas.Nat.{mod-mul-add, mod_below, div-add-mod'}
use Rattle.std.proofs.lemmas.Bool.{cases_lt}
use Rattle.flow_window.specs.declared.send.OutOfWindow.{OutOfWindow}
use Rattle.flow_window.specs.Window.{Window, ahead, taken, IsInWindow, acknowledged, gone_back}
use Rattle.flow_window.specs.Counts.{Names, Shows}
use Rattle.flow_window.specs.Naming.{ahead_is}

-- the number of what is sent next, and the window after it
pub shows_taken : (modulus : ℕ) (old new : Window) (number : ℕ) → new ≡ taken old → number ≡ (old.oldest +
    old.next) % modulus → old.next < old.size →
    (oldest next highest : ℕ) → Shows modulus old oldest next highest → (number ≡ next % modulus) × Shows modulus
    new oldest (next + 1) (max highest (next + 1))
shows_taken modulus old new number new_is number_is room oldest next highest shows = (
  number_is ∙ ap (λ n. (n + old.next) % modulus) shows.number ∙ mod-add-mod oldest modulus old.next ∙ ap (λ n. n %
      modulus) shows.next_is,
  subst (λ w. Shows modulus w oldest (next + 1) (max highest (next + 1))) (sym new_is)
      (let a = shows.next_is in let b = shows.highest_is in let c = shows.in_order in let d = shows.fits in
      record {
        number = shows.number;
        next_is = omega arith;
        highest_is = omega arith;
        in_order = omega arith;
        fits = omega arith;
      }),
)

-- a number that names a count lies in the window, as far ahead as the count
pub named_ahead : (modulus : ℕ) (w : Window) (oldest next highest number count : ℕ) → w.size < modulus → Shows
    modulus w oldest next highest → Names modulus oldest highest number count → ahead modulus w.oldest number ≡
    count - oldest
named_ahead modulus w oldest next highest number count small shows names =
    let a = shows.highest_is in let b = shows.fits in let c = names.from_oldest in let d = names.to_highest in
    ahead_is modulus oldest count w.oldest number shows.number names.is names.from_oldest (omega arith)

pub named_within : (modulus : ℕ) (w : Window) (oldest next highest number count : ℕ) → w.size < modulus → Shows
    modulus w oldest next highest → Names modulus oldest highest number count → IsInWindow modulus w number
named_within modulus w oldest next highest number count small shows names =
    let a = shows.highest_is in let d = names.to_highest in
    let e = named_ahead modulus w oldest next highest number count small shows names in
    let pos : 0 < modulus = omega arith in
    record {
      below = subst (λ n. n < modulus) (sym names.is) (mod_below count modulus pos);
      within = omega arith;
    }

pub shows_acknowledged : (modulus : ℕ) (old new : Window) (number : ℕ) → old.size < modulus → new ≡ acknowledged
    modulus old number →
    (oldest next highest count : ℕ) → Shows modulus old oldest next highest → Names modulus oldest highest number
    count → Shows modulus new count (max next count) highest
shows_acknowledged modulus old new number small new_is oldest next highest count shows names =
    let a = shows.next_is in let b = shows.highest_is in let c = shows.in_order in let d = shows.fits in
    let f = names.from_oldest in let g = names.to_highest in
    let e = named_ahead modulus old oldest next highest number count small shows names in
    subst (λ w. Shows modulus w count (max next count) highest) (sym new_is) (record {
      number = names.is;
      next_is = omega arith;
      highest_is = omega arith;
      in_order = omega arith;
      fits = omega arith;
    })

pub shows_gone_back : (modulus : ℕ) (old new : Window) (number : ℕ) → old.size < modulus → new ≡ gone_back modulus
    old number →
    (oldest next highest count : ℕ) → Shows modulus old oldest next highest → Names modulus oldest highest number
    count → Shows modulus new oldest count highest
shows_gone_back modulus old new number small new_is oldest next highest count shows names =
    let b = shows.highest_is in let d = shows.fits in
    let f = names.from_oldest in let g = names.to_highest in
    let e = named_ahead modulus old oldest next highest number count small shows names in
    subst (λ w. Shows modulus w oldest count highest) (sym new_is) (record {
      number = shows.number;
      next_is = omega arith;
      highest_is = b;
      in_order = g;
      fits = d;
    })

-- a number in the window names a count
number_before : (modulus q va nr : ℕ) → va < modulus → nr < modulus → nr < va → (q * modulus + va + (nr + modulus -
    va) % modulus) % modulus ≡ nr
number_before modulus q va nr low below less =
    let small : (0 * modulus + (nr + modulus - va)) % modulus ≡ nr + modulus - va = mod-mul-add 0 modulus (nr +
    modulus - va) (omega arith) in
    let plain : nr + modulus - va ≡ 0 * modulus + (nr + modulus - va) = omega arith in
    let sum : q * modulus + va + (nr + modulus - va) ≡ (q + 1) * modulus + nr = omega arith in
    ap (λ n. (q * modulus + va + n % modulus) % modulus) plain ∙ ap (λ n. (q * modulus + va + n) % modulus) small ∙
    ap (λ n. n % modulus) sum ∙ mod-mul-add (q + 1) modulus nr below

number_after : (modulus q va nr : ℕ) → va < modulus → nr < modulus → va ≤ nr → (q * modulus + va + (nr + modulus -
    va) % modulus) % modulus ≡ nr
number_after modulus q va nr low below more =
    let once : nr + modulus - va ≡ 1 * modulus + (nr - va) = omega arith in
    let small : (1 * modulus + (nr - va)) % modulus ≡ nr - va = mod-mul-add 1 modulus (nr - va) (omega arith) in
    let sum : q * modulus + va + (nr - va) ≡ q * modulus + nr = omega arith in
    ap (λ n. (q * modulus + va + n % modulus) % modulus) once ∙ ap (λ n. (q * modulus + va + n) % modulus) small ∙
    ap (λ n. n % modulus) sum ∙ mod-mul-add q modulus nr below

number_by : (modulus q va nr : ℕ) → va < modulus → nr < modulus → (nr < va) ⊎ (va ≤ nr) → (q * modulus + va + (nr +
    modulus - va) % modulus) % modulus ≡ nr
number_by modulus q va nr low below (inl less) = number_before modulus q va nr low below less
number_by modulus q va nr low below (inr more) = number_after modulus q va nr low below more

number_at : (modulus a nr : ℕ) → nr < modulus → (a + (nr + modulus - a % modulus) % modulus) % modulus ≡ nr
number_at modulus a nr below =
    let pos : 0 < modulus = omega arith in
    let whole : a / modulus * modulus + a % modulus ≡ a = div-add-mod' a modulus in
    ap (λ n. (n + (nr + modulus - a % modulus) % modulus) % modulus) (sym whole)
    ∙ number_by modulus (a / modulus) (a % modulus) nr (mod_below a modulus pos) below (cases_lt nr (a % modulus))

pub names_within : (modulus : ℕ) (w : Window) (oldest next highest number : ℕ) → Shows modulus w oldest next
    highest → IsInWindow modulus w number → Names modulus oldest highest number (oldest + ahead modulus w.oldest
    number)
names_within modulus w oldest next highest number shows inside =
    let b = shows.highest_is in let d = inside.within in
    let e : (oldest + (number + modulus - oldest % modulus) % modulus) % modulus ≡ number = number_at modulus
    oldest number inside.below in
    record {
      from_oldest = omega arith;
      to_highest = omega arith;
      is = sym e ∙ ap (λ n. (oldest + (number + modulus - n) % modulus) % modulus) (sym shows.number);
    }

-- what `ack` answers, by the window alone
abbrev pub Answers : (modulus : ℕ) → (old new : Window) → (number : ℕ) → Result ℕ OutOfWindow → Type 0
Answers modulus old new number result = MatchResult result
    (λ newly. IsInWindow modulus old number × (newly ≡ ahead modulus old.oldest number) × (new ≡ acknowledged
    modulus old number))
    (λ _. (IsInWindow modulus old number → ⊥) × (new ≡ old))

pub ack_named : (modulus : ℕ) (old new : Window) (number : ℕ) (result : Result ℕ OutOfWindow) → old.size < modulus
    → Answers modulus old new number result →
    (oldest next highest count : ℕ) → Shows modulus old oldest next highest → Names modulus oldest highest number
    count → (result ≡ Ok (count - oldest)) × Shows modulus new count (max next count) highest
ack_named modulus old new number (Ok newly) small answers oldest next highest count shows names = (
  ap (λ n. Ok n) (answers.1 ∙ named_ahead modulus old oldest next highest number count small shows names),
  shows_acknowledged modulus old new number small answers.2 oldest next highest count shows names,
)
ack_named modulus old new number (Err outside) small answers oldest next highest count shows names =
    absurd (answers.0 (named_within modulus old oldest next highest number count small shows names))

pub ack_refused : (modulus : ℕ) (old new : Window) (number : ℕ) (result : Result ℕ OutOfWindow) → Answers modulus
    old new number result →
    (oldest next highest : ℕ) → Shows modulus old oldest next highest → ((count : ℕ) → Names modulus oldest highest
    number count → ⊥) → IsErr result
ack_refused modulus old new number (Ok newly) answers oldest next highest shows none =
    absurd (none (oldest + ahead modulus old.oldest number) (names_within modulus old oldest next highest number
    shows answers.0))
ack_refused modulus old new number (Err outside) answers oldest next highest shows none = refl

-- the number after that of a count
pub next_count : (modulus expected next count : ℕ) → next ≡ (expected + 1) % modulus → expected ≡ count % modulus →
    next ≡ (count + 1) % modulus
next_count modulus expected next count next_is expected_is =
    next_is ∙ ap (λ n. (n + 1) % modulus) expected_is ∙ mod-add-mod count modulus 1
