-- The timers of a packet layer (X.25 annex D): the ticks that each has left, which are due, and which are to run.
use Rattle.std.specs.Prelude.{◌≡◌, ℕ, zero, suc, ◌+◌, ◌≤◌, Bool, false, if◌then◌else◌, length, Option, Some, None}
use Rattle.std.specs.Prelude.{is_some}
use Rattle.std.specs.Option.{option_map}
use Rattle.link_timers.specs.declared.role.Role.{Role}
use Rattle.link_timers.specs.declared.role.Role.TheVariants.{Dte, Dce}
use Rattle.link_timers.specs.declared.timers.TimerId.{TimerId}
use Rattle.link_timers.specs.declared.timers.TimerId.TheVariants.{T10, T20, T11, T12, T13, T21, T22, T23}
use Rattle.link_timers.specs.Timers as ticks
use Rattle.link_timers.specs.Timers.{Places, lowered, is_due}
use Rattle.link_timers.specs.ChannelTimers as kind
use Rattle.link_timers.specs.ChannelTimers.{left_on, none_of_kind, stopped_on, due_channels, brought_as, brought_on}
use Rattle.packet_layer.specs.Layer.{Layer, Timer, runs}
use Rattle.packet_layer.specs.Layer.Timer.{RestartTimer, CallTimer, ResetTimer, ClearTimer}

-- the timer of the restart, and by channel those of the call, of the reset and of the clear
pub record LayerTimers : Type 0 where
  pub restart : Option ℕ
  pub calls : Places
  pub resets : Places
  pub clears : Places

abbrev pub none_running : LayerTimers
none_running = record { restart = None; calls = none_of_kind; resets = none_of_kind; clears = none_of_kind }

-- the ticks that a timer has left, if it runs
abbrev pub left_of : LayerTimers → Timer → Option ℕ
left_of timers RestartTimer = timers.restart
left_of timers (CallTimer channel) = left_on timers.calls channel
left_of timers (ResetTimer channel) = left_on timers.resets channel
left_of timers (ClearTimer channel) = left_on timers.clears channel

abbrev pub stopped : LayerTimers → Timer → LayerTimers
stopped timers RestartTimer = record timers { restart = None }
stopped timers (CallTimer channel) = record timers { calls = stopped_on timers.calls channel }
stopped timers (ResetTimer channel) = record timers { resets = stopped_on timers.resets channel }
stopped timers (ClearTimer channel) = record timers { clears = stopped_on timers.clears channel }

abbrev pub after_ticks : LayerTimers → (ticks : ℕ) → LayerTimers
after_ticks timers n = record {
  restart = lowered n timers.restart;
  calls = ticks.after_ticks timers.calls n;
  resets = ticks.after_ticks timers.resets n;
  clears = ticks.after_ticks timers.clears n;
}

-- ---- by name, where the name is one of the layer's

abbrev pub runs_by_name : LayerTimers → Option Timer → Bool
runs_by_name timers None = false
runs_by_name timers (Some timer) = is_some (left_of timers timer)

abbrev pub stopped_by_name : LayerTimers → Option Timer → LayerTimers
stopped_by_name timers None = timers
stopped_by_name timers (Some timer) = stopped timers timer

-- the name of a timer: T20 to T23 are a DTE's, T10 to T13 a DCE's
abbrev pub name_of : Role → Timer → TimerId
name_of Dte RestartTimer = T20
name_of Dte (CallTimer channel) = T21 channel
name_of Dte (ResetTimer channel) = T22 channel
name_of Dte (ClearTimer channel) = T23 channel
name_of Dce RestartTimer = T10
name_of Dce (CallTimer channel) = T11 channel
name_of Dce (ResetTimer channel) = T12 channel
name_of Dce (ClearTimer channel) = T13 channel

-- ---- those that are due

abbrev pub either : Option Timer → Option Timer → Option Timer
either (Some timer) other = Some timer
either None other = other

-- the first one that runs with no tick left: that of the restart, then those of calls, of resets and of clears
abbrev pub first_due : LayerTimers → Option Timer
first_due timers =
    if is_due timers.restart then Some RestartTimer
    else either (option_map CallTimer (kind.first_due timers.calls))
    (either (option_map ResetTimer (kind.first_due timers.resets)) (option_map ClearTimer (kind.first_due timers.clears)))

-- how many there are
abbrev pub due_count : LayerTimers → ℕ
due_count timers =
    (if is_due timers.restart then 1 else 0)
    + (length (due_channels timers.calls) + (length (due_channels timers.resets) + length (due_channels timers.clears)))

-- ---- those that are to run after an event

-- how long each runs: three minutes
abbrev pub packet_ticks : ℕ
packet_ticks = 3600

abbrev pub brought_channel : Layer → (channel : ℕ) → LayerTimers → LayerTimers
brought_channel l channel timers = record timers {
  calls = brought_on packet_ticks (runs l (CallTimer channel)) channel timers.calls;
  resets = brought_on packet_ticks (runs l (ResetTimer channel)) channel timers.resets;
  clears = brought_on packet_ticks (runs l (ClearTimer channel)) channel timers.clears;
}

-- those of so many channels, from the first one on
abbrev pub brought_channels : Layer → (count : ℕ) → LayerTimers → LayerTimers
brought_channels l zero timers = timers
brought_channels l (suc count) timers = brought_channel l (suc count) (brought_channels l count timers)

abbrev pub brought_restart : Layer → LayerTimers → LayerTimers
brought_restart l timers = record timers { restart = brought_as packet_ticks (runs l RestartTimer) timers.restart }

-- all of them, with that of the restart: a line has at most 32 channels
unfoldable pub brought : Layer → LayerTimers → LayerTimers
brought l timers = brought_channels l 32 (brought_restart l timers)

-- a timer runs exactly if the layer wants it to
abbrev pub RunsAsWanted : Layer → LayerTimers → Timer → Type 0
RunsAsWanted l timers timer = is_some (left_of timers timer) ≡ runs l timer

-- no timer of a channel runs
abbrev pub NoneRuns : LayerTimers → (channel : ℕ) → Type 0
NoneRuns timers channel =
    (left_on timers.calls channel ≡ None) × (left_on timers.resets channel ≡ None) × (left_on timers.clears channel ≡ None)

-- the channel of a timer, 0 for that of the restart
abbrev pub channel_number : Timer → ℕ
channel_number RestartTimer = 0
channel_number (CallTimer channel) = channel
channel_number (ResetTimer channel) = channel
channel_number (ClearTimer channel) = channel

-- the restart has a timer, and each channel from 1 to 32
abbrev pub IsTimer : Timer → Type 0
IsTimer RestartTimer = Unit {0}
IsTimer (CallTimer channel) = (1 ≤ channel) × (channel ≤ 32)
IsTimer (ResetTimer channel) = (1 ≤ channel) × (channel ≤ 32)
IsTimer (ClearTimer channel) = (1 ≤ channel) × (channel ≤ 32)

-- each timer runs exactly if the layer wants it to
abbrev pub TimersAgree : Layer → LayerTimers → Type 0
TimersAgree l timers = (timer : Timer) → IsTimer timer → RunsAsWanted l timers timer
