-- What happens at nodes, and exactly, says nothing of the lines where it is not known whether they are faithful.
use Rattle.std.specs.Prelude.{Result}
use Rattle.frame_lines.specs.Lines.{LineService}
use Rattle.net_events.specs.Network.{Network}
use Rattle.net_events.specs.declared.answer.Answer.{Answer}
use Rattle.net_events.specs.declared.event.Event.{Event}
use Rattle.net_events.specs.declared.event.StepFault.{StepFault}
use Rattle.net_nodes.specs.Carrying.{blind}
use Rattle.net_nodes.specs.Happening.{Happens}

-- what happens on lines happens on such lines too
abbrev pub BlindLaw : LineService → Type 0
BlindLaw L = (e : Event) (s : Network) (r : Result Answer StepFault) (t : Network) → Happens L e s r t
    → Happens (blind L) e s r t
