-- When an event is refused, by what happened.
use Rattle.std.proofs.Common.{◌≡◌, Option, Some, None, Result, Ok, Err, sym, ap, inl, inr}
use Rattle.std.specs.Prelude.{◌⊎◌}
use Rattle.frame_lines.specs.Lines.{LineService}
use Rattle.net_events.specs.declared.event.Event.{Event}
use Rattle.net_events.specs.declared.event.StepFault.{StepFault}
use Rattle.net_events.specs.declared.event.StepFault.TheVariants.{NoSuchNode, NoSuchTerminal, NoSuchCall, Refused, OutOfMemory}
use Rattle.net_events.specs.declared.answer.Answer.{Answer}
use Rattle.net_events.specs.Network.{Network}
use Rattle.net_nodes.specs.Faults.{step_fault, IsLeftToNode, MayWant}
use Rattle.net_nodes.specs.Happening.{Happens, IsRefusedSo}

own : (fault f : StepFault) → f ≡ fault → IsRefusedSo (Some f) (Err fault)
own fault NoSuchNode e = ap Err (sym e)
own fault NoSuchTerminal e = ap Err (sym e)
own fault NoSuchCall e = ap Err (sym e)
own fault (Refused x) e = inl (ap Err (sym e))
own fault OutOfMemory e = ap Err (sym e)

pub refusals : (L : LineService) (e : Event) (s : Network) (r : Result Answer StepFault) (t : Network) → Happens L e s r t → IsRefusedSo (step_fault e s) r
refusals L e s (Ok answer) t h = by (step_fault e s) h.0 where
  by : (o : Option StepFault) → o ≡ None → IsRefusedSo o (Ok answer)
  by None o = tt
  by (Some f) o = absurd (cc)
refusals L e s (Err fault) t h = by (step_fault e s) (left h.0) where
  left : (step_fault e s ≡ Some fault) ⊎ MayWant e s × (fault ≡ OutOfMemory)
      → (step_fault e s ≡ Some fault) ⊎ IsLeftToNode (step_fault e s) × (fault ≡ OutOfMemory)
  left (inl own) = inl own
  left (inr want) = inr (want.0.1, want.1)

  by : (o : Option StepFault) → (o ≡ Some fault) ⊎ IsLeftToNode o × (fault ≡ OutOfMemory) → IsRefusedSo o (Err fault)
  by None (inl o) = absurd (cc)
  by None (inr o) = o.1
  by (Some f) (inl o) = let same : f ≡ fault = cc in own fault f same
  by (Some NoSuchNode) (inr o) = absurd o.0
  by (Some NoSuchTerminal) (inr o) = absurd o.0
  by (Some NoSuchCall) (inr o) = absurd o.0
  by (Some OutOfMemory) (inr o) = absurd o.0
  by (Some (Refused x)) (inr o) = inr (ap Err o.1)
