-- How much an end owes at most, and what makes it ask for a relink: between two ends of this project the limit on owed
-- packets is never passed.
use Rattle.std.specs.Prelude.{◌≡◌, ℕ, ◌<◌, ◌≤◌, Bool, true, false, List, length, Some}
use Rattle.data_transfer.specs.Flow.{modulus}
use Rattle.data_transfer.specs.declared.flow.Flow.{Flow}
use Rattle.packet_channel.specs.Channel.{ChannelState, Channel}
use Rattle.packet_channel.specs.Channel.ChannelState.{Ready, OwnWaiting, FarWaiting, Transfer, Collision, OwnClear}
use Rattle.packet_layer.specs.Layer.{channel_of}
use Rattle.packet_layer.specs.Layer.Timer.{RestartTimer}
use Rattle.packet_laws.specs.LayerLine.{Line, Event, Happening, turned, start_line, happens, after}
use Rattle.packet_laws.specs.LayerLine.Event.{Expires}

-- the control packets that a channel owes at most, by its state: four only when its call is over
abbrev pub most_owed : ChannelState → ℕ
most_owed FarWaiting = 0
most_owed OwnWaiting = 1
most_owed Collision = 1
most_owed Transfer = 3
most_owed Ready = 4
most_owed OwnClear = 4

abbrev pub is_restart_expiry : Event → Bool
is_restart_expiry (Expires RestartTimer) = true
is_restart_expiry event = false

-- the line with the request of its end `me` for a relink taken back
abbrev pub unasked : Line → Line
unasked w = record w { me = record w.me { layer = record w.me.layer { relink = false } } }

-- the event itself makes the end `me` ask for a relink, whether it asks already or not
abbrev pub asks : Event → Line → Bool
asks event w = (happens event (unasked w)).me.layer.relink

-- at the end `me`: what it owes; no event but an expiry of the restart timer makes it ask for a relink, so that none
-- finds four packets owed and owes a further one; and where it asks after such an event, it asked before
pub record WithinLimit (w : Line) : Type 0 where
  pub restarts : length w.me.layer.owed ≤ 2
  pub controls : (c : ℕ) (ch : Channel) → channel_of w.me.layer c ≡ Some ch → length ch.owed ≤ most_owed ch.state
  pub no_limit_passed : (event : Event) → is_restart_expiry event ≡ false → asks event w ≡ false
  pub asked_before : (event : Event) → is_restart_expiry event ≡ false → (happens event w).me.layer.relink ≡ true
      → w.me.layer.relink ≡ true

-- whatever happens on a line with any number of channels and a window below the modulus, standing or not, at both its
-- ends
abbrev pub OwedLaw : Type 0
OwedLaw = (channels : ℕ) (flow : Flow) (standing : Bool) → 1 ≤ channels → flow.window < modulus flow.numbering → (hs : List Happening)
    → let w = after hs (start_line channels flow standing) in WithinLimit w × WithinLimit (turned w)
