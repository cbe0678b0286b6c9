-- What an event leaves, by what happened.
use Rattle.std.proofs.Common.{◌≡◌, Result, Ok, Err}
use Rattle.std.specs.Prelude.{OnErr}
use Rattle.frame_lines.specs.Lines.{LineService}
use Rattle.net_events.specs.declared.answer.Answer.{Answer}
use Rattle.net_events.specs.declared.event.Event.{Event}
use Rattle.net_events.specs.declared.event.StepFault.{StepFault}
use Rattle.net_events.specs.Network.{Network}
use Rattle.net_nodes.specs.Happening.{Happens}
use Rattle.network_laws.proofs.Switched.PromiseAny.{promise_any}
use Rattle.line_sim.specs.Between.{IsBetweenEvents}
use Rattle.line_sim.specs.Stepping.{HasStepped}
use Rattle.line_sim.proofs.Courses.{courses_go_on}
use Rattle.line_sim.proofs.Events.{happens}
use Rattle.line_sim.proofs.FewerDue.{fewer_due}
use Rattle.line_sim.proofs.IdleTimers.{idle}

unchanged : (L : LineService) (e : Event) (s : Network) (r : Result Answer StepFault) (t : Network) → Happens L e s r t
    → OnErr r (t ≡ s)
unchanged L e s (Ok answer) t h = tt
unchanged L e s (Err fault) t h = h.1

pub stepped : (L : LineService) (e : Event) (s : Network) (r : Result Answer StepFault) (t : Network)
    → IsBetweenEvents L s → Happens L e s r t → HasStepped L e s r t
stepped L e s r t b h = record {
  happens = h;
  err = unchanged L e s r t h;
  fewer_due = fewer_due L e s r t b h;
  idle = idle L e s r t b h;
  courses = courses_go_on L e s r t b h;
  headline = λ f. (promise_any L t (happens L e s r t b h).any f).calls;
  inner = λ f. (promise_any L t (happens L e s r t b h).any f).inner;
}
