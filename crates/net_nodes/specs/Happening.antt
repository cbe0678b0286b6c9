-- What an event does, refused or not.
use Rattle.std.specs.Prelude.{◌≡◌, ◌⊎◌, ◌≤◌, ◌<◌, ℕ, false, [], Option, Some, None, Result, Ok, Err, IsOkUnless}
use Rattle.frame_lines.specs.declared.line.Direction.{Direction}
use Rattle.frame_lines.specs.declared.line.Direction.TheVariants.{FromDte, FromDce}
use Rattle.frame_lines.specs.Lines.{LineService}
use Rattle.net_events.specs.declared.event.Event.{Event}
use Rattle.net_events.specs.declared.event.Event.TheVariants.{Deliver}
use Rattle.net_events.specs.declared.event.StepFault.{StepFault}
use Rattle.net_events.specs.declared.event.StepFault.TheVariants.{OutOfMemory, Refused}
use Rattle.net_events.specs.declared.answer.Answer.{Answer}
use Rattle.net_events.specs.declared.answer.Outcome.TheVariants.{Delivered}
use Rattle.net_events.specs.Network.{Network}
use Rattle.net_nodes.specs.Faults.{step_fault, MayWant}
use Rattle.net_nodes.specs.Steps.{StepOf}

-- the event is answered, or refused with its fault, or for want of memory where it takes memory and the network itself
-- does not refuse it; refused, it changes nothing
abbrev pub Happens : (L : LineService) → Event → Network → Result Answer StepFault → Network → Type 0
Happens L e s (Ok answer) t = (step_fault e s ≡ None) × StepOf L e s answer t
Happens L e s (Err fault) t = ((step_fault e s ≡ Some fault) ⊎ MayWant e s × (fault ≡ OutOfMemory)) × (t ≡ s)

-- an event with a fault of its own is refused with it, or, where only the node refuses it, for want of memory; one
-- without is refused for want of memory alone
abbrev pub IsRefusedSo : Option StepFault → Result Answer StepFault → Type 0
IsRefusedSo None r = IsOkUnless r OutOfMemory
IsRefusedSo (Some (Refused fault)) r = (r ≡ Err (Refused fault)) ⊎ (r ≡ Err OutOfMemory)
IsRefusedSo (Some fault) r = r ≡ Err fault

-- an answer that says that no frame arrived, and nothing besides
pub record SaysNoneArrived (a : Answer) : Type 0 where
  pub frames : a.frames.items ≡ []
  pub notes : a.notes.items ≡ []
  pub text : a.text.items ≡ []
  pub outcome : a.outcome ≡ Delivered false

-- a delivery on a line in a direction is answered so, and changes nothing
pub record FindsNoFrame (L : LineService) (line : ℕ) (d : Direction) (s : Network) : Type 0 where
  pub answer : Answer
  pub says : SaysNoneArrived answer
  pub happens : Happens L (Deliver line d) s (Ok answer) s

-- so are the deliveries in both directions on each line from one number on up to another one
abbrev pub FindNoFrames : (L : LineService) → (from to : ℕ) → Network → Type 0
FindNoFrames L from to s =
    (line : ℕ) → from ≤ line → line < to → FindsNoFrame L line FromDte s × FindsNoFrame L line FromDce s
