-- What an event on one line leaves of the calls of others.
use Rattle.std.specs.Prelude.{◌≡◌, ℕ, Bool, true, false, ◌&&◌, nat_le, ◌⊎◌, List, [], ◌∷◌, length, slice_get}
use Rattle.std.specs.Prelude.{Option, Some, None, is_some}
use Rattle.link_timers.specs.declared.timers.TimerId.{TimerId}
use Rattle.data_transfer.specs.Packets.{CallParts}
use Rattle.packet_channel.specs.Channel.{Channel, Step, requested, placing}
use Rattle.packet_layer.specs.Layer.{Layer, channel_of, channel_given}
use Rattle.switch_joins.specs.declared.channels.SwitchChannel.{SwitchChannel}
use Rattle.switch_joins.specs.Joins.{Joined}
use Rattle.switch_lines.specs.Lines.{SwitchLine, joined_at}
use Rattle.switch_lines.specs.Switch.{Switch, on_frame, on_timer, relink}
use Rattle.switch_laws.specs.World.{World, Act, line_of, after_act, layers_of, shown_at}
use Rattle.switch_laws.specs.World.Act.{Asks, Calls}
use Rattle.switch_laws.specs.Steps.{Happening, does}
use Rattle.switch_laws.specs.Steps.Happening.{Brings, RunsOut, Relinks}
use Rattle.switch_laws.specs.EventSteps.{event_acts}
use Rattle.switch_laws.specs.Stays.{relinked_in}
use Rattle.switch_laws.specs.Concern.{is_one_of}
use Rattle.switch_laws.specs.Events.{SwitchHolds}

-- the join is as it was, with what the switch keeps for it, and so are the channels of both its legs
pub record IsUntouched (p : SwitchChannel) (j : Joined) (ls ms : List SwitchLine) : Type 0 where
  pub joined : joined_at ms p ≡ Some j
  pub here : shown_at (layers_of ms) p ≡ shown_at (layers_of ls) p
  pub there : shown_at (layers_of ms) j.other ≡ shown_at (layers_of ls) j.other

-- ---- a fifth packet that a channel owes to its line

-- the channel owes four packets, and after the step it would owe one more
abbrev pub is_fifth : Step → Bool
is_fifth st = is_some st.owes && nat_le 4 (length st.channel.owed)

abbrev pub fifth_on : Option Channel → (Channel → Step) → Bool
fifth_on None f = false
fifth_on (Some ch) f = is_fifth (f ch)

abbrev pub fifth_placed : Layer → Option ℕ → CallParts → Bool
fifth_placed l None parts = false
fifth_placed l (Some c) parts = fifth_on (channel_of l c) (λ ch. placing parts ch)

-- a request on a channel of the line does that, or a call that is placed there
abbrev pub makes_fifth : Act → Option Layer → Bool
makes_fifth act None = false
makes_fifth (Asks p q) (Some l) = fifth_on (channel_of l p.channel) (λ ch. requested l.role l.flow ch q)
makes_fifth (Calls n parts) (Some l) = fifth_placed l (channel_given l l.phase) parts
makes_fifth act (Some l) = false

-- so it is in one of these acts
abbrev pub CameToOwe : (line : ℕ) → List Act → List Layer → Type 0
CameToOwe m [] ys = ⊥
CameToOwe m (act ∷ more) ys =
    ((line_of act ≡ m) × (makes_fifth act (slice_get ys m) ≡ true)) ⊎ CameToOwe m more (after_act act ys)

-- ---- an event on line n

-- the link of line m was set up anew in the event, and a fifth packet came to be owed there
pub record WasTooMuch (n : ℕ) (what : Happening) (s : Switch) (m : ℕ) : Type 0 where
  pub set_up_anew : is_one_of (relinked_in n (does what) s) m ≡ true
  pub fifth : CameToOwe m (event_acts s.routes n what s.lines) (layers_of s.lines)

-- each join of two other lines is untouched, or too much was owed on one of the two
abbrev pub LeavesOthers : (line : ℕ) → Happening → (old new : Switch) → Type 0
LeavesOthers n what old new = (p : SwitchChannel) (j : Joined) → joined_at old.lines p ≡ Some j → (p.line ≡ n → ⊥)
    → (j.other.line ≡ n → ⊥)
    → IsUntouched p j old.lines new.lines ⊎ (WasTooMuch n what old p.line ⊎ WasTooMuch n what old j.other.line)

-- so it is, whatever frame comes on the line, whatever timer of it expires, and where its link is set up anew
pub record IsolationLaw : Type 0 where
  pub frame : (n : ℕ) (octets : List ℕ) (s : Switch) (w : World) → SwitchHolds s w
      → LeavesOthers n (Brings octets) s (on_frame n octets s)
  pub timer : (n : ℕ) (id : TimerId) (s : Switch) (w : World) → SwitchHolds s w
      → LeavesOthers n (RunsOut id) s (on_timer n id s)
  pub relinks : (n : ℕ) (s : Switch) (w : World) → SwitchHolds s w → LeavesOthers n Relinks s (relink n s)
