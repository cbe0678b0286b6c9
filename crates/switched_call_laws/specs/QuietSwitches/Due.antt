-- What is due at a switch comes to an end.
use Rattle.std.specs.Prelude.{◌≡◌, ℕ, ◌<◌, slice_get, Some}
use Rattle.link_timers.specs.declared.timers.TimerId.{TimerId}
use Rattle.switch_lines.specs.Switch.{Switch, on_timer, due_on}
use Rattle.switched_call_laws.specs.SwitchRecords.DueTimers.{all_due_on}
use Rattle.switched_call_laws.specs.QuietSwitches.Quiet.{IsQuietSwitch, drained}

-- where the timer that is due on a line expires, fewer are due on all lines than before: it is stopped, and what is
-- started has ticks left
abbrev pub SwitchFewerLaw : Type 0
SwitchFewerLaw = (n : ℕ) (id : TimerId) (s : Switch) → IsQuietSwitch s → due_on (slice_get s.lines n) ≡ Some id
    → all_due_on (drained (on_timer n id s)) < all_due_on s
