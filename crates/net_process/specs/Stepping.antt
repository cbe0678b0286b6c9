-- What an event does in a process.
use Rattle.std.specs.Prelude.{◌≡◌, Bool, true, false, Result}
use Rattle.frame_lines.specs.Lines.{LineService}
use Rattle.net_events.specs.declared.answer.Answer.{Answer}
use Rattle.net_events.specs.declared.event.Event.{Event}
use Rattle.net_events.specs.declared.event.StepFault.{StepFault}
use Rattle.net_events.specs.Network.{Network}
use Rattle.live_net.specs.Parting.{HasLivedApart}
use Rattle.net_process.specs.Process.{ProcessState, may_be}

-- an event that may be here happens at the process's part of the network; any other one changes nothing
abbrev pub HappensIf : LineService → Bool → Event → Network → Result Answer StepFault → Network → Type 0
HappensIf L true e s r t = HasLivedApart L e s r t
HappensIf L false e s r t = t ≡ s

pub record HasStepped (L : LineService) (e : Event) (p : ProcessState) (r : Result Answer StepFault) (q : ProcessState) : Type 0 where
  pub part : Network
  pub happens : HappensIf L (may_be p e) e p.part r part
  pub process : q ≡ record p { part = part }
