-- The timers of one kind, one for each logical channel: how many ticks each that runs has left.
use Rattle.std.specs.Prelude.{ℕ, Bool, true, false, List, replicate, Option, None, Some, slice_get, slice_index_or, slice_set}
use Rattle.link_timers.specs.Timers.{Places, due_by}

-- how many places there are: of the channels 1 to 32, and of channel 0, whose timer never runs
abbrev pub channel_places : ℕ
channel_places = 33

abbrev pub none_of_kind : Places
none_of_kind = replicate channel_places None

-- the ticks that the timer of a channel has left, if it runs
abbrev pub left_on : Places → (channel : ℕ) → Option ℕ
left_on timers channel = slice_index_or timers channel None

-- a timer that is to run and does not is started, one that is not to run is stopped, and one that runs as it is to
-- goes on
abbrev pub brought_as : (ticks : ℕ) → (runs : Bool) → Option ℕ → Option ℕ
brought_as ticks false left = None
brought_as ticks true None = Some ticks
brought_as ticks true (Some left) = Some left

abbrev pub brought_on : (ticks : ℕ) → (runs : Bool) → (channel : ℕ) → Places → Places
brought_on ticks runs channel timers = slice_set timers channel (brought_as ticks runs (left_on timers channel))

abbrev pub stopped_on : Places → (channel : ℕ) → Places
stopped_on timers channel = slice_set timers channel None

-- the channels whose timer has no ticks left, in order
abbrev pub due_channels : Places → List ℕ
due_channels timers = due_by (λ channel. channel) 0 timers

-- the first of them
abbrev pub first_due : Places → Option ℕ
first_due timers = slice_get (due_channels timers) 0
