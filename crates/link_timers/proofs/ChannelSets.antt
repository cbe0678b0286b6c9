-- The channels whose timer runs, one after the other.
use Rattle.std.proofs.Common.{◌≡◌, ◌∙◌, ℕ, ◌<◌, true, length, ap, sym, arith}
use Rattle.number_set.specs.declared.NumberSet.{NumberSet}
use Rattle.number_set.specs.NumberSet.{has, IsFirstOf}
use Rattle.link_timers.specs.Timers.{Places}
use Rattle.link_timers.specs.Running.{AreCounts, IsFirst}
use Rattle.link_timers.proofs.RunningLaws.{IsLowered, within_places}

pub first : (rest after : NumberSet) (place : ℕ) → IsFirstOf rest place after → IsFirst (λ n. has rest n) place (λ n. has after n)
first rest after place found = record { there = found.there; first = found.first; others = found.others }

-- the channel that is taken is one of the timers'
pub within : (ticks : ℕ) (old now : Places) (running rest before : NumberSet) (place : ℕ) → AreCounts 33 old (λ n. has before n) →
    running ≡ before → IsLowered ticks old now (λ n. has running n) (λ n. has rest n) → has rest place ≡ true → place < length now
within ticks old now running rest before place are same is there =
    let less = within_places 33 old (λ n. has before n) place are
    (sym (ap (λ (s : NumberSet). has s place) same) ∙ is.among place there) in
    omega (arith, less, is.whole, are.whole)
