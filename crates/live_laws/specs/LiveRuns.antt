-- What happens to a network that keeps no records, one thing after the other, and the registers that it leaves.
use Rattle.std.specs.Prelude.{◌≡◌, ℕ, List, [], ◌∷◌, Result}
use Rattle.call_records.specs.Register.{Register}
use Rattle.frame_lines.specs.Lines.{LineService}
use Rattle.net_events.specs.Network.{Network, all_elapsed}
use Rattle.net_events.specs.declared.answer.Answer.{Answer}
use Rattle.net_events.specs.declared.event.Event.{Event}
use Rattle.net_events.specs.declared.event.StepFault.{StepFault}
use Rattle.network_laws.specs.Switched.InnerPromise.{NetworkPromise}
use Rattle.line_sim.specs.Between.{IsBetweenEvents}
use Rattle.line_sim.specs.Stepping.{HasStepped}
use Rattle.live_laws.specs.Registers.{on}
use Rattle.live_laws.specs.Living.{HasLived}

-- an event is handled, which has this result, or time passes
pub data Move : Type 0 where
  Handles : Event → Result Answer StepFault → Move
  Passes : (ticks : ℕ) → Move

-- the network without records moves so
abbrev pub LiveMove : (L : LineService) → Move → Network → Network → Type 0
LiveMove L (Handles e r) s t = HasLived L e s r t
LiveMove L (Passes ticks) s t = t ≡ all_elapsed ticks s

abbrev pub LiveMoves : (L : LineService) → Network → List Move → Network → Type 0
LiveMoves L s [] t = s ≡ t
LiveMoves L s (move ∷ moves) t = (mid : Network) × LiveMove L move s mid × LiveMoves L mid moves t

-- a network that keeps records moves so: its promise holds after each move
abbrev pub KeptMove : (L : LineService) → Move → Network → Network → Type 0
KeptMove L (Handles e r) s t = HasStepped L e s r t
KeptMove L (Passes ticks) s t = (t ≡ all_elapsed ticks s) × (L.faithful → NetworkPromise t)

-- from this register on there is one after each move, and with them the network moves as one that keeps records
abbrev pub RunsOn : (L : LineService) → Register → Network → List Move → Network → Type 0
RunsOn L g s [] t = s ≡ t
RunsOn L g s (move ∷ moves) t =
    (mid : Network) × (after : Register) × KeptMove L move (on g s) (on after mid) × IsBetweenEvents L (on after mid)
    × RunsOn L after mid moves t

abbrev pub LiveRunsAreRuns : LineService → Type 0
LiveRunsAreRuns L = (g : Register) (s : Network) (moves : List Move) (t : Network) → IsBetweenEvents L (on g s)
    → LiveMoves L s moves t → RunsOn L g s moves t
