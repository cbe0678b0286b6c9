-- Counts of ticks, and which of them run.
use Rattle.std.specs.Prelude.{◌≡◌, ℕ, ◌<◌, Bool, true, false, ◌&&◌, not, ◌==◌, length, None, is_some, slice_index_or}
use Rattle.link_timers.specs.Timers.{Places}

-- there are so many places, and it is known at which of them a timer runs
pub record AreCounts (count : ℕ) (timers : Places) (running : ℕ → Bool) : Type 0 where
  pub whole : length timers ≡ count
  pub runs : (place : ℕ) → running place ≡ is_some (slice_index_or timers place None)

-- the first of some places, which is taken out
pub record IsFirst (places : ℕ → Bool) (place : ℕ) (rest : ℕ → Bool) : Type 0 where
  pub there : places place ≡ true
  pub first : (n : ℕ) → n < place → places n ≡ false
  pub others : (n : ℕ) → rest n ≡ (places n && not (n == place))
