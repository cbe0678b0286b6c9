-- What an event is answered, and what it makes of the network.
use Rattle.std.specs.Prelude.{◌≡◌, OnErr, Result, Ok, Err}
use Rattle.std.specs.Borrow.{Bor}
use Rattle.frame_lines.specs.Lines.{LineService}
use Rattle.net_events.specs.declared.answer.Answer.{Answer}
use Rattle.net_events.specs.declared.event.Event.{Event}
use Rattle.net_events.specs.declared.event.StepFault.{StepFault}
use Rattle.net_events.specs.Network.{Network}
use Rattle.net_nodes.specs.Happening.{Happens}
use Rattle.network_laws.specs.Switched.InnerPromise.{PromisesCalls, InnerPromise}
use Rattle.line_sim.specs.Courses.{CoursesGoOn}
use Rattle.line_sim.specs.Expiries.{FewerDue, IdleExpiry}

-- the answer that is lent
abbrev pub lent : Result (Bor Answer) StepFault → Result Answer StepFault
lent (Ok answer) = Ok answer.now
lent (Err fault) = Err fault

-- the event is answered or refused so, which leaves this network: refused, it is as before; what is due comes to an
-- end, on any line; a timer that does not run changes nothing; and on faithful lines each course of a PAD goes on by what
-- the event brings to that PAD, and the promise holds
pub record HasStepped (L : LineService) (e : Event) (s : Network) (r : Result Answer StepFault)
    (t : Network) : Type 0 where
  pub happens : Happens L e s r t
  pub err : OnErr r (t ≡ s)
  pub fewer_due : FewerDue e s r t
  pub idle : IdleExpiry L e s t
  pub courses : CoursesGoOn L e s r t
  pub headline : L.faithful → PromisesCalls t
  pub inner : L.faithful → InnerPromise t
