-- A process of which all nodes are its own is a network in one process.
use Rattle.std.specs.Prelude.{Result}
use Rattle.frame_lines.specs.Lines.{LineService}
use Rattle.net_events.specs.Network.{Network}
use Rattle.net_events.specs.declared.answer.Answer.{Answer}
use Rattle.net_events.specs.declared.event.Event.{Event}
use Rattle.net_events.specs.declared.event.StepFault.{StepFault}
use Rattle.live_laws.specs.Living.{HasLived}
use Rattle.live_net.specs.Parting.{HasLivedApart}

-- what happened in a process happened in a network that keeps no records: with each register with which the promise held
-- before, there is one with which it holds after
abbrev pub ApartLaw : LineService → Type 0
ApartLaw L = (e : Event) (s : Network) (r : Result Answer StepFault) (t : Network) → HasLivedApart L e s r t
    → HasLived L e s r t
