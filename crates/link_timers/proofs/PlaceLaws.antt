-- Each timer has a place of its own, so the places are a map from timers.
use Rattle.std.proofs.Common.{◌≡◌, ◌≢◌, ℕ, zero, suc, ◌+◌, ◌-◌, ◌<◌, ◌≤◌, Bool, true, false, [], ◌∷◌, length, get_or, set, map, replicate, refl, sym, ◌∙◌, ap, arith}
use Rattle.std.specs.Prelude.{◌⊎◌, Option, None, nat_le}
use Rattle.std.proofs.Common.{inl, inr, get_or-set_other}
use borrow.Author.Tests.{lt-ltb, le-ltb, le-leb, leb-true}
use Rattle.link_timers.specs.declared.timers.TimerId.{TimerId}
use Rattle.link_timers.specs.declared.timers.TimerId.TheVariants.{T1, T10, T20, T11, T12, T13, T21, T22, T23, Idle}
use Rattle.link_timers.specs.Timers.{Places, place_in, place_of, timer_at, IsTimer, left_of, lowered}
use Rattle.link_timers.specs.Timers.{channels, first_t11, first_t12, first_t13, first_t21, first_t22, first_t23, first_idle, places}

pub at_T11 : (place : ℕ) → first_t11 ≤ place → place < first_t12 → timer_at place ≡ T11 (place - first_t11 + 1)
at_T11 place least most = rw (
  le-ltb place 1 (omega arith),
  le-ltb place 2 (omega arith),
  le-ltb place first_t11 (omega arith),
  lt-ltb place first_t12 most,
) refl

pub at_T12 : (place : ℕ) → first_t12 ≤ place → place < first_t13 → timer_at place ≡ T12 (place - first_t12 + 1)
at_T12 place least most = rw (
  le-ltb place 1 (omega arith),
  le-ltb place 2 (omega arith),
  le-ltb place first_t11 (omega arith),
  le-ltb place first_t12 (omega arith),
  lt-ltb place first_t13 most,
) refl

pub at_T13 : (place : ℕ) → first_t13 ≤ place → place < first_t21 → timer_at place ≡ T13 (place - first_t13 + 1)
at_T13 place least most = rw (
  le-ltb place 1 (omega arith),
  le-ltb place 2 (omega arith),
  le-ltb place first_t11 (omega arith),
  le-ltb place first_t12 (omega arith),
  le-ltb place first_t13 (omega arith),
  lt-ltb place first_t21 most,
) refl

pub at_T21 : (place : ℕ) → first_t21 ≤ place → place < first_t22 → timer_at place ≡ T21 (place - first_t21 + 1)
at_T21 place least most = rw (
  le-ltb place 1 (omega arith),
  le-ltb place 2 (omega arith),
  le-ltb place first_t11 (omega arith),
  le-ltb place first_t12 (omega arith),
  le-ltb place first_t13 (omega arith),
  le-ltb place first_t21 (omega arith),
  lt-ltb place first_t22 most,
) refl

pub at_T22 : (place : ℕ) → first_t22 ≤ place → place < first_t23 → timer_at place ≡ T22 (place - first_t22 + 1)
at_T22 place least most = rw (
  le-ltb place 1 (omega arith),
  le-ltb place 2 (omega arith),
  le-ltb place first_t11 (omega arith),
  le-ltb place first_t12 (omega arith),
  le-ltb place first_t13 (omega arith),
  le-ltb place first_t21 (omega arith),
  le-ltb place first_t22 (omega arith),
  lt-ltb place first_t23 most,
) refl

pub at_T23 : (place : ℕ) → first_t23 ≤ place → place < first_idle → timer_at place ≡ T23 (place - first_t23 + 1)
at_T23 place least most = rw (
  le-ltb place 1 (omega arith),
  le-ltb place 2 (omega arith),
  le-ltb place first_t11 (omega arith),
  le-ltb place first_t12 (omega arith),
  le-ltb place first_t13 (omega arith),
  le-ltb place first_t21 (omega arith),
  le-ltb place first_t22 (omega arith),
  le-ltb place first_t23 (omega arith),
  lt-ltb place first_idle most,
) refl

pub at_Idle : (place : ℕ) → first_idle ≤ place → timer_at place ≡ Idle (place - first_idle)
at_Idle place least = rw (
  le-ltb place 1 (omega arith),
  le-ltb place 2 (omega arith),
  le-ltb place first_t11 (omega arith),
  le-ltb place first_t12 (omega arith),
  le-ltb place first_t13 (omega arith),
  le-ltb place first_t21 (omega arith),
  le-ltb place first_t22 (omega arith),
  le-ltb place first_t23 (omega arith),
  le-ltb place first_idle (omega arith),
) refl

-- the place of a timer that there is
pub record HasPlace (id : TimerId) : Type 0 where
  pub below : place_of id < places
  pub back : timer_at (place_of id) ≡ id

pub place_within : (first lowest highest number : ℕ) → lowest ≤ number → number ≤ highest → place_in first lowest
    highest number ≡ first + (number - lowest)
place_within first lowest highest number least most = rw (le-leb lowest number least, le-leb number highest most) refl

-- the timers of one kind have places for the channels 1 to 32, one after the other
of_channel : (first channel : ℕ) (timer : ℕ → TimerId) → first ≤ first_t23 → (1 ≤ channel) × (channel ≤ 32) →
    place_of (timer channel) ≡ place_in first 1 32 channel →
    ((place : ℕ) → first ≤ place → place < first + channels → timer_at place ≡ timer (place - first + 1)) →
    HasPlace (timer channel)
of_channel first channel timer most is kind at =
    let place : place_of (timer channel) ≡ first + (channel - 1) =
    kind ∙ place_within first 1 32 channel is.0 is.1
    in
    let number : first + (channel - 1) - first + 1 ≡ channel = omega (arith, is.0) in
    record {
      below = omega (arith, place, most, is.0, is.1);
      back = ap timer_at place ∙ at (first + (channel - 1)) (omega arith) (omega (arith, is.0, is.1))
          ∙ ap timer number;
    }

pub has_place : (id : TimerId) → IsTimer id → HasPlace id
has_place T1 is = record { below = omega arith; back = refl }
has_place T10 is = record { below = omega arith; back = refl }
has_place T20 is = record { below = omega arith; back = refl }
has_place (T11 channel) is = of_channel first_t11 channel (λ n. T11 n) (omega arith) is refl at_T11
has_place (T12 channel) is = of_channel first_t12 channel (λ n. T12 n) (omega arith) is refl at_T12
has_place (T13 channel) is = of_channel first_t13 channel (λ n. T13 n) (omega arith) is refl at_T13
has_place (T21 channel) is = of_channel first_t21 channel (λ n. T21 n) (omega arith) is refl at_T21
has_place (T22 channel) is = of_channel first_t22 channel (λ n. T22 n) (omega arith) is refl at_T22
has_place (T23 channel) is = of_channel first_t23 channel (λ n. T23 n) (omega arith) is refl at_T23
has_place (Idle terminal) is =
    let place : place_in first_idle 0 15 terminal ≡ first_idle + (terminal - 0) =
    place_within first_idle 0 15 terminal (omega arith) is
    in
    let number : first_idle + (terminal - 0) - first_idle ≡ terminal = omega arith in
    record {
      below = omega arith;
      back = ap timer_at place ∙ at_Idle (first_idle + (terminal - 0)) (omega arith) ∙ ap (λ n. Idle n) number;
    }

-- two timers at one place are one
pub one_place : (a b : TimerId) → IsTimer a → IsTimer b → place_of a ≡ place_of b → a ≡ b
one_place a b is_a is_b e = sym (has_place a is_a).back ∙ ap timer_at e ∙ (has_place b is_b).back

place_outside : (first number : ℕ) → (place_in first 1 32 number ≡ places) ⊎ ((1 ≤ number) × (number ≤ 32))
place_outside first number = go (nat_le 1 number) (nat_le number 32) refl refl
  where
    go : (a b : Bool) → nat_le 1 number ≡ a → nat_le number 32 ≡ b →
        (place_in first 1 32 number ≡ places) ⊎ ((1 ≤ number) × (number ≤ 32))
    go true true p q = inr (leb-true 1 number p, leb-true number 32 q)
    go true false p q = inl (rw (p, q) refl)
    go false b p q = inl (rw p refl)

terminal_outside : (number : ℕ) → (place_in first_idle 0 15 number ≡ places) ⊎ (number ≤ 15)
terminal_outside number = go (nat_le number 15) refl
  where
    go : (b : Bool) → nat_le number 15 ≡ b → (place_in first_idle 0 15 number ≡ places) ⊎ (number ≤ 15)
    go true q = inr (leb-true number 15 q)
    go false q = inl (rw (le-leb 0 number (omega arith), q) refl)

-- a timer that there is, or none
pub timer_or_none : (id : TimerId) → (place_of id ≡ places) ⊎ IsTimer id
timer_or_none T1 = inr tt
timer_or_none T10 = inr tt
timer_or_none T20 = inr tt
timer_or_none (T11 channel) = place_outside first_t11 channel
timer_or_none (T12 channel) = place_outside first_t12 channel
timer_or_none (T13 channel) = place_outside first_t13 channel
timer_or_none (T21 channel) = place_outside first_t21 channel
timer_or_none (T22 channel) = place_outside first_t22 channel
timer_or_none (T23 channel) = place_outside first_t23 channel
timer_or_none (Idle terminal) = terminal_outside terminal

-- past the end there is nothing
pub past_end : (timers : Places) (place : ℕ) → length timers ≤ place → get_or timers place None ≡ None
past_end [] place beyond = refl
past_end (left ∷ timers) zero beyond = absurd (omega arith)
past_end (left ∷ timers) (suc place) beyond = past_end timers place (omega arith)

length_set : (timers : Places) (place : ℕ) (left : Option ℕ) → length (set timers place left) ≡ length timers
length_set [] place left = refl
length_set (x ∷ timers) zero left = refl
length_set (x ∷ timers) (suc place) left = ap suc (length_set timers place left)

-- another timer keeps its ticks
pub others_left : (timers : Places) (id other : TimerId) (left : Option ℕ) → length timers ≡ places → other ≢ id →
    left_of (set timers (place_of id) left) other ≡ left_of timers other
others_left timers id other left whole apart = go (timer_or_none id) (timer_or_none other)
  where
    go : (place_of id ≡ places) ⊎ IsTimer id → (place_of other ≡ places) ⊎ IsTimer other →
        left_of (set timers (place_of id) left) other ≡ left_of timers other
    go is_id (inl none) =
        past_end (set timers (place_of id) left) (place_of other) (omega (arith, length_set timers (place_of id) left))
        ∙ sym (past_end timers (place_of other) (omega arith))
    go (inl none) (inr is_other) =
        let below = (has_place other is_other).below in
        let ne : place_of other ≢ place_of id = omega arith in
        rw get_or-set_other refl
    go (inr is_id) (inr is_other) =
        let ne : place_of other ≢ place_of id = λ e. apart (one_place other id is_other is_id e) in
        rw get_or-set_other refl

-- also as the code sets it
pub others_stay : (inside old : Places) (place : ℕ) (id : TimerId) (left : Option ℕ) → inside ≡ old →
    place ≡ place_of id → length inside ≡ places → (other : TimerId) → other ≢ id →
    left_of (set inside place left) other ≡ left_of old other
others_stay inside old place id left same at whole other apart =
    ap (λ (p : ℕ). left_of (set inside p left) other) at ∙ others_left inside id other left whole apart
    ∙ ap (λ (timers : Places). left_of timers other) same

-- ticks pass for each
pub lowered_at : (timers : Places) (place ticks : ℕ) → get_or (map (lowered ticks) timers) place None ≡ lowered ticks
    (get_or timers place None)
lowered_at [] place ticks = refl
lowered_at (left ∷ timers) zero ticks = refl
lowered_at (left ∷ timers) (suc place) ticks = lowered_at timers place ticks

pub none_at : (count place : ℕ) → get_or (replicate count (let none : Option ℕ = None in none)) place None ≡ None
none_at zero place = refl
none_at (suc count) zero = refl
none_at (suc count) (suc place) = none_at count place

pub none_left : (id : TimerId) → left_of (replicate places None) id ≡ None
none_left id = none_at places (place_of id)
