-- What an event does in one process of a network in several, which keeps no records.
use Rattle.std.specs.Prelude.{Result}
use Rattle.call_records.specs.Register.{Register, HasNoRecords}
use Rattle.frame_lines.specs.Lines.{LineService}
use Rattle.net_events.specs.Network.{Network}
use Rattle.net_events.specs.declared.answer.Answer.{Answer}
use Rattle.net_events.specs.declared.event.Event.{Event}
use Rattle.net_events.specs.declared.event.StepFault.{StepFault}
use Rattle.net_nodes.specs.Carrying.{blind}
use Rattle.net_nodes.specs.Happening.{Happens}
use Rattle.line_sim.specs.Between.{IsBetweenEvents}
use Rattle.line_sim.specs.Stepping.{HasStepped}
use Rattle.live_laws.specs.Registers.{on}

-- with this register before the event there is one after it, with which the event was answered or refused exactly so;
-- but for what it says of lines, it was a step of a network
pub record StepsApart (L : LineService) (e : Event) (g : Register) (s : Network) (r : Result Answer StepFault)
    (t : Network) : Type 0 where
  pub after : Register
  pub happens : Happens L e (on g s) r (on after t)
  pub stepped : HasStepped (blind L) e (on g s) r (on after t)
  pub between : IsBetweenEvents (blind L) (on after t)

-- so it is with each register with which the process was between events, and no record is kept
pub record HasLivedApart (L : LineService) (e : Event) (s : Network) (r : Result Answer StepFault) (t : Network)
    : Type 0 where
  pub steps : (g : Register) → IsBetweenEvents (blind L) (on g s) → StepsApart L e g s r t
  pub stored : HasNoRecords t.register
