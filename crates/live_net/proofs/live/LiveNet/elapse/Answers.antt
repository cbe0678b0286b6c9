use Rattle.network_laws.proofs.Courses.{time_course}
use Rattle.network_laws.proofs.Switched.PromiseAny.{promise_any}
use Rattle.line_sim.proofs.Events.{elapsed}
use Rattle.live_laws.specs.Registers.{on}
use Rattle.live_laws.proofs.Lives.{live_elapsed}
use Rattle.live_net.proofs.live.LiveNet.elapse.Goals as goal

pub invariant_of-self : goal.invariant_of-self
invariant_of-self g c =
    (rw c.elapse.ensures (live_elapsed g.L.Line.service _ c.args.ticks c.self.invariant.0), c.self.invariant.1)

pub returns-clause-between : goal.returns-clause-between
returns-clause-between g c = rw (← c.self.view_is, c.elapse.ensures) (λ register between.
    elapsed g.L.Line.service (on register c.self.inside.nodes) c.args.ticks between)

pub returns-clause-courses : goal.returns-clause-courses
returns-clause-courses g c = rw (← c.self.view_is, c.elapse.ensures) (λ register pad line place events h.
    time_course (on register c.self.inside.nodes) c.args.ticks pad line place events h)

pub returns-clause-headline : goal.returns-clause-headline
returns-clause-headline g c = rw (← c.self.view_is, c.elapse.ensures) (λ register between faithful.
    (promise_any g.L.Line.service _ (elapsed g.L.Line.service (on register c.self.inside.nodes) c.args.ticks between).any faithful).calls)

pub returns-clause-inner : goal.returns-clause-inner
returns-clause-inner g c = rw (← c.self.view_is, c.elapse.ensures) (λ register between faithful.
    (promise_any g.L.Line.service _ (elapsed g.L.Line.service (on register c.self.inside.nodes) c.args.ticks between).any faithful).inner)
