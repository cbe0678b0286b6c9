-- The timers of an end of a line, as a map from those that run to the ticks that they have left.
use Rattle.std.specs.Prelude.{ℕ, ◌+◌, ◌-◌, ◌≤◌, Bool, false, ◌&&◌, List, [], ◌∷◌, map, replicate, Option, Some, None, slice_index_or, slice_set, nat_le, nat_lt, ◌==◌, if◌then◌else◌}
use Rattle.link_timers.specs.declared.timers.TimerId.{TimerId}
use Rattle.link_timers.specs.declared.timers.TimerId.TheVariants.{T1, T10, T20, T11, T12, T13, T21, T22, T23, Idle}

-- the timers' places: in the order in which their names are listed, then by number
abbrev pub Places : Type 0
Places = List (Option ℕ)

-- how many channels there are, and how many terminals
abbrev pub channels : ℕ
channels = 32

abbrev pub terminals : ℕ
terminals = 16

-- T1, T10 and T20 have the first three places, then each kind of timer has one for each channel or terminal
abbrev pub first_t11 : ℕ
first_t11 = 3

abbrev pub first_t12 : ℕ
first_t12 = first_t11 + channels

abbrev pub first_t13 : ℕ
first_t13 = first_t12 + channels

abbrev pub first_t21 : ℕ
first_t21 = first_t13 + channels

abbrev pub first_t22 : ℕ
first_t22 = first_t21 + channels

abbrev pub first_t23 : ℕ
first_t23 = first_t22 + channels

abbrev pub first_idle : ℕ
first_idle = first_t23 + channels

-- how many places there are: for T1, T10 and T20, six timers of each channel, and one of each terminal
abbrev pub places : ℕ
places = first_idle + terminals

abbrev pub place_in : (first lowest highest number : ℕ) → ℕ
place_in first lowest highest number =
    if nat_le lowest number && nat_le number highest then first + (number - lowest) else places

-- the place of a timer, past all of them for a channel or a terminal that there is not
abbrev pub place_of : TimerId → ℕ
place_of T1 = 0
place_of T10 = 1
place_of T20 = 2
place_of (T11 channel) = place_in first_t11 1 32 channel
place_of (T12 channel) = place_in first_t12 1 32 channel
place_of (T13 channel) = place_in first_t13 1 32 channel
place_of (T21 channel) = place_in first_t21 1 32 channel
place_of (T22 channel) = place_in first_t22 1 32 channel
place_of (T23 channel) = place_in first_t23 1 32 channel
place_of (Idle terminal) = place_in first_idle 0 15 terminal

-- the timer at a place
abbrev pub timer_at : ℕ → TimerId
timer_at place =
    if nat_lt place 1 then T1
    else if nat_lt place 2 then T10
    else if nat_lt place first_t11 then T20
    else if nat_lt place first_t12 then T11 (place - first_t11 + 1)
    else if nat_lt place first_t13 then T12 (place - first_t12 + 1)
    else if nat_lt place first_t21 then T13 (place - first_t13 + 1)
    else if nat_lt place first_t22 then T21 (place - first_t21 + 1)
    else if nat_lt place first_t23 then T22 (place - first_t22 + 1)
    else if nat_lt place first_idle then T23 (place - first_t23 + 1)
    else Idle (place - first_idle)

-- a timer of a channel from 1 to 32, or of a terminal from 0 to 15
abbrev pub IsTimer : TimerId → Type 0
IsTimer T1 = Unit {0}
IsTimer T10 = Unit {0}
IsTimer T20 = Unit {0}
IsTimer (T11 channel) = (1 ≤ channel) × (channel ≤ 32)
IsTimer (T12 channel) = (1 ≤ channel) × (channel ≤ 32)
IsTimer (T13 channel) = (1 ≤ channel) × (channel ≤ 32)
IsTimer (T21 channel) = (1 ≤ channel) × (channel ≤ 32)
IsTimer (T22 channel) = (1 ≤ channel) × (channel ≤ 32)
IsTimer (T23 channel) = (1 ≤ channel) × (channel ≤ 32)
IsTimer (Idle terminal) = terminal ≤ 15

-- the ticks that a timer has left, if it runs
abbrev pub left_of : Places → TimerId → Option ℕ
left_of timers id = slice_index_or timers (place_of id) None

-- no timer runs
abbrev pub none_running : Places
none_running = replicate places None

-- a timer runs, or runs anew
abbrev pub started : Places → TimerId → (ticks : ℕ) → Places
started timers id ticks = slice_set timers (place_of id) (Some ticks)

-- a timer does not run
abbrev pub stopped : Places → TimerId → Places
stopped timers id = slice_set timers (place_of id) None

-- ticks pass, for a timer
abbrev pub lowered : (ticks : ℕ) → Option ℕ → Option ℕ
lowered ticks None = None
lowered ticks (Some left) = Some (left - ticks)

-- ticks pass
abbrev pub after_ticks : Places → (ticks : ℕ) → Places
after_ticks timers ticks = map (lowered ticks) timers

abbrev pub is_due : Option ℕ → Bool
is_due None = false
is_due (Some left) = left == 0

-- those of the places from this one on that have no ticks left, by what is at each place
abbrev pub due_by : {A : Type 0} → (name : ℕ → A) → (place : ℕ) → Places → List A
due_by name place [] = []
due_by name place (left ∷ others) =
    if is_due left then name place ∷ due_by name (place + 1) others else due_by name (place + 1) others

abbrev pub due_from : (place : ℕ) → Places → List TimerId
due_from place timers = due_by timer_at place timers

-- the timers that have no ticks left, in order
abbrev pub due_timers : Places → List TimerId
due_timers timers = due_from 0 timers
