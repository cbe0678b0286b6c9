-- Terminals that no client has.
use Rattle.std.specs.Prelude.{◌≡◌, ◌⊎◌, ◌<◌, ℕ, true, List, length, slice_get, Some}
use Rattle.frame_lines.specs.Lines.{LineService}
use Rattle.user_nodes.specs.declared.terminal.TerminalEvent.TheVariants as what
use Rattle.net_events.specs.declared.event.Event.TheVariants.{AtTerminal}
use Rattle.net_process.specs.Process.{ProcessState}
use Rattle.service.specs.declared.absent.PadBinding.{PadBinding}
use Rattle.service.specs.declared.place.Place.{Place}
use Rattle.service.specs.Places.{is_bound}
use Rattle.service.specs.Steps.{Step, Steps, IsSilent, HasTried}

-- steps that are nothing at these places
pub record PassesPlaces (L : LineService) (places : List Place) (steps : List Step) (s t : ProcessState) : Type 0 where
  pub made : Steps L s steps t
  pub silent : (port : ℕ) (at : Place) → slice_get places port ≡ Some at → IsSilent at steps

-- of a terminal that has none of these places its PAD is told that nobody is there
abbrev pub IsTold : (places : List Place) → (steps : List Step) → Place → Type 0
IsTold places steps at = (is_bound at places ≡ true) ⊎ HasTried (AtTerminal at.node at.number what.Leaves) steps

-- of each terminal of a PAD below a number, of each of a PAD, and of each of the PADs before a number
pub record LeavesBelow (L : LineService) (node below : ℕ) (places : List Place) (s t : ProcessState) : Type 0 where
  pub steps : List Step
  pub passes : PassesPlaces L places steps s t
  pub told : (number : ℕ) → number < below → IsTold places steps (record { node = node; number = number })

abbrev pub LeavesPad : (L : LineService) → PadBinding → (places : List Place) → (s t : ProcessState) → Type 0
LeavesPad L pad places s t = LeavesBelow L pad.node pad.terminals places s t

pub record LeavesPads (L : LineService) (below : ℕ) (pads : List PadBinding) (places : List Place) (s t : ProcessState) : Type 0 where
  pub steps : List Step
  pub passes : PassesPlaces L places steps s t
  pub told : (index : ℕ) (pad : PadBinding) (number : ℕ) → index < below → slice_get pads index ≡ Some pad → number < pad.terminals
      → IsTold places steps (record { node = pad.node; number = number })

-- each terminal of these PADs that has none of these places is absent
abbrev pub LeavesAbsent : (L : LineService) → List PadBinding → (places : List Place) → (s t : ProcessState) → Type 0
LeavesAbsent L pads places s t = LeavesPads L (length pads) pads places s t
