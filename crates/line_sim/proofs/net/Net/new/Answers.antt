use Rattle.std.proofs.Common.{subst, sym}
use Rattle.net_config.specs.NetPlan.{NetPlan}
use Rattle.network_laws.specs.Courses.{IsPlannedPad}
use Rattle.network_laws.proofs.MadeCourses.{made_course}
use Rattle.network_laws.proofs.Switched.PromiseAny.{promise_any}
use Rattle.line_sim.proofs.Events.{made}
use Rattle.line_sim.proofs.InFlight.{new_kept}
use Rattle.line_sim.proofs.net.Net.new.Goals as goal

pub invariant_of-result : goal.invariant_of-result
invariant_of-result g c =
    new_kept g.L.Line.service c.in_ok-nodes.nodes c.in_ok-busy.busy
    (made g.L.Line.service c.in_ok-plan.plan c.in_ok-nodes.nodes c.in_ok-plan.ensures.plan c.in_ok-nodes.ensures.ok)
    c.in_ok-busy.ensures.all

pub returns-clause-courses : goal.returns-clause-courses
returns-clause-courses g c = λ pad line place planned.
    made_course g.L.Line.service c.in_ok-plan.plan c.in_ok-nodes.nodes pad line place c.in_ok-plan.ensures.plan
    c.in_ok-plan.ensures.alone c.in_ok-nodes.ensures.ok
    (subst (λ (p : NetPlan). IsPlannedPad pad p line place) (sym c.in_ok-plan.ensures.value) planned)

pub returns-clause-headline : goal.returns-clause-headline
returns-clause-headline g c = λ f.
    (promise_any g.L.Line.service c.in_ok-nodes.nodes
    (made g.L.Line.service c.in_ok-plan.plan c.in_ok-nodes.nodes c.in_ok-plan.ensures.plan c.in_ok-nodes.ensures.ok).any f).calls

pub returns-clause-inner : goal.returns-clause-inner
returns-clause-inner g c = λ f.
    (promise_any g.L.Line.service c.in_ok-nodes.nodes
    (made g.L.Line.service c.in_ok-plan.plan c.in_ok-nodes.nodes c.in_ok-plan.ensures.plan c.in_ok-nodes.ensures.ok).any f).inner
