-- What an event of a switch sends: on each line the frames of its steps, of which none is lost.
use Rattle.std.specs.Prelude.{◌≡◌, ℕ, ◌≤◌, true, ◌==◌, if◌then◌else◌, List, [], ◌∷◌, ◌++◌, length, slice_get}
use Rattle.std.specs.Prelude.{Option, Some, None}
use Rattle.link_timers.specs.declared.timers.TimerId.{TimerId}
use Rattle.lapb.specs.Machine.{Octets}
use Rattle.packet_end.specs.PacketEnd.{PacketEnd}
use Rattle.packet_end.specs.Sending.{answer_frames, timer_frames, relink_frames, last_frames}
use Rattle.switch_lines.specs.Lines.{SwitchLine}
use Rattle.switch_lines.specs.Switch.{Switch, frames_on, timer_runs, on_frame, on_timer, relink}
use Rattle.switch_laws.specs.Steps.{Happening, Step, lines_after}
use Rattle.switch_laws.specs.Steps.Happening.{Brings, RunsOut, Relinks}
use Rattle.switch_laws.specs.Steps.Step.{Happens, Settles}
use Rattle.switch_laws.specs.EventSteps.{event_steps}
use Rattle.switch_laws.specs.World.{World}
use Rattle.switch_laws.specs.Events.{SwitchHolds}

-- what is sent where a frame comes, a timer expires, or the link is set up anew
abbrev pub happening_frames : Happening → PacketEnd → List Octets
happening_frames (Brings octets) e = answer_frames e octets
happening_frames (RunsOut id) e = timer_frames e id
happening_frames Relinks e = relink_frames e

abbrev pub frames_at : (PacketEnd → List Octets) → Option SwitchLine → List Octets
frames_at f None = []
frames_at f (Some l) = f l.end

-- what a step of an event sends on line m, and what all of its steps do
abbrev pub step_frames : (m : ℕ) → Step → List SwitchLine → List Octets
step_frames m (Happens n what) ls =
    if n == m then frames_at (λ e. happening_frames what e) (slice_get ls m) else []
step_frames m Settles ls = frames_at (λ e. last_frames e) (slice_get ls m)
step_frames m step ls = []

abbrev pub all_frames : (m : ℕ) → List Step → List SwitchLine → List Octets
all_frames m [] ls = []
all_frames m (step ∷ more) ls = step_frames m step ls ++ all_frames m more (lines_after step ls)

-- they are what waits on the line after the event, and at most nine
pub record AreAllSent (n : ℕ) (what : Happening) (old new : Switch) : Type 0 where
  pub all : (m : ℕ) → frames_on (slice_get new.lines m)
      ≡ all_frames m (event_steps old.routes n what old.lines) old.lines
  pub most : (m : ℕ) → length (all_frames m (event_steps old.routes n what old.lines) old.lines) ≤ 9

-- so it is, whatever frame comes, whatever timer that runs expires, and where a link is set up anew
pub record SentLaw : Type 0 where
  pub frame : (n : ℕ) (octets : List ℕ) (s : Switch) (w : World) → SwitchHolds s w
      → AreAllSent n (Brings octets) s (on_frame n octets s)
  pub timer : (n : ℕ) (id : TimerId) (s : Switch) (w : World) → SwitchHolds s w
      → timer_runs (slice_get s.lines n) id ≡ true → AreAllSent n (RunsOut id) s (on_timer n id s)
  pub relinks : (n : ℕ) (s : Switch) (w : World) → SwitchHolds s w → AreAllSent n Relinks s (relink n s)
