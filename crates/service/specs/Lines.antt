-- What a service does for lines to other processes.
use Rattle.std.specs.Prelude.{◌≡◌, ℕ, List, [], ◌∷◌, slice_get, Some, Result}
use Rattle.frame_lines.specs.Lines.{LineService}
use Rattle.net_events.specs.declared.answer.Answer.{Answer}
use Rattle.net_events.specs.declared.event.StepFault.{StepFault}
use Rattle.net_process.specs.Carrying.{carried}
use Rattle.net_process.specs.Process.{ProcessState}
use Rattle.net_process.specs.Remote.{HasRead, after_given_up}
use Rattle.net_process.specs.Starting.{HasRestarted}
use Rattle.remote_lines.specs.declared.line.Reading.{Reading}
use Rattle.service.specs.declared.absent.PadBinding.{PadBinding}
use Rattle.service.specs.declared.place.Place.{Place}
use Rattle.service.specs.Absent.{LeavesAbsent}
use Rattle.service.specs.Steps.{Step, Makes, IsSilent}

-- a node starts, with an answer
abbrev pub Starts : (L : LineService) → (node : ℕ) → (s t : ProcessState) → Type 0
Starts L node s t = (answer : Result Answer StepFault) × HasRestarted L node s answer t

-- a node starts; a step is made; a link that is given up is so once; what came on a line is read; what the nodes sent is
-- handed to connections
pub data LineDeed : Type 0 where
  starts : (node : ℕ) → LineDeed
  steps : Step → LineDeed
  gives_up : LineDeed
  reads : (place : ℕ) → LineDeed
  hands_on : LineDeed

abbrev pub IsDone : (L : LineService) → ProcessState → LineDeed → ProcessState → Type 0
IsDone L s (starts node) t = Starts L node s t
IsDone L s (steps step) t = Makes L s step t
IsDone L s gives_up t = t ≡ after_given_up s
IsDone L s (reads place) t = (old : List ℕ) × (answer : Reading) × (frame : List ℕ) × HasRead L place old s answer frame t
IsDone L s hands_on t = t ≡ carried s

-- one after the other
abbrev pub DoesAll : (L : LineService) → ProcessState → List LineDeed → ProcessState → Type 0
DoesAll L s [] t = s ≡ t
DoesAll L s (deed ∷ deeds) t = (mid : ProcessState) × IsDone L s deed mid × DoesAll L mid deeds t

-- the steps among these
abbrev pub steps_in : List LineDeed → List Step
steps_in [] = []
steps_in (steps step ∷ deeds) = step ∷ steps_in deeds
steps_in (deed ∷ deeds) = steps_in deeds

-- deeds that are nothing at terminals of these places
pub record ServesLines (L : LineService) (places : List Place) (s t : ProcessState) : Type 0 where
  pub deeds : List LineDeed
  pub done : DoesAll L s deeds t
  pub silent : (port : ℕ) (at : Place) → slice_get places port ≡ Some at → IsSilent at (steps_in deeds)

-- A node starts, and is as new: its PAD is told of which of its terminals nobody is there.
pub record StartsOne (L : LineService) (pads : List PadBinding) (places : List Place) (s t : ProcessState) : Type 0 where
  pub node : ℕ
  pub between : ProcessState
  pub starts : Starts L node s between
  pub absent : LeavesAbsent L pads places between t
