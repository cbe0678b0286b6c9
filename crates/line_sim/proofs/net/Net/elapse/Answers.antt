use Rattle.std.proofs.Common.{refl, subst, sym}
use Rattle.net_events.specs.Network.{Network}
use Rattle.network_laws.specs.Courses.{HasCourse}
use Rattle.network_laws.proofs.Courses.{time_course}
use Rattle.network_laws.proofs.Switched.PromiseAny.{promise_any}
use Rattle.line_sim.proofs.Events.{elapsed}
use Rattle.line_sim.proofs.InFlight.{timed_kept}
use Rattle.line_sim.proofs.net.Net.elapse.Goals as goal

pub invariant_of-self : goal.invariant_of-self
invariant_of-self g c =
    rw c.elapse.ensures
    (timed_kept g.L.Line.service c.self.inside.nodes _ c.self.inside.busy c.self.invariant
    (elapsed g.L.Line.service _ c.args.ticks c.self.invariant.between) refl)

pub returns-clause-headline : goal.returns-clause-headline
returns-clause-headline g c = λ f.
    rw c.elapse.ensures ((promise_any g.L.Line.service _ (elapsed g.L.Line.service _ c.args.ticks c.self.invariant.between).any f).calls)

pub returns-clause-inner : goal.returns-clause-inner
returns-clause-inner g c = λ f.
    rw c.elapse.ensures ((promise_any g.L.Line.service _ (elapsed g.L.Line.service _ c.args.ticks c.self.invariant.between).any f).inner)

pub returns-clause-courses : goal.returns-clause-courses
returns-clause-courses g c = λ pad line place events h.
    rw c.elapse.ensures (
    time_course c.self.inside.nodes c.args.ticks pad line place events
    (subst (λ (s : Network). HasCourse pad line place events s) (sym c.self.view_is) h)
    )
