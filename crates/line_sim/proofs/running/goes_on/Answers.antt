use Rattle.std.proofs.Common.{sym, ap, ◌∙◌, true≢false}
use Rattle.std.specs.Prelude.{not}
use Rattle.net_events.specs.contracts.event.StepFaultPartialEq.TheImpl.{ghosts}
use Rattle.net_events.specs.declared.event.StepFault.{StepFault}
use Rattle.net_events.specs.declared.event.StepFault.TheVariants.{OutOfMemory}
use Rattle.line_sim.specs.Courses.{CoursesLead}
use Rattle.line_sim.proofs.RunsMore.{lent_answered, lent_courses, refused_courses, if_so}
use Rattle.frame_lines.specs.Lines.{memory_service}
use Rattle.line_sim.proofs.running.goes_on.Goals as goal

pub returns-in-Ok-clause-handled : goal.returns-in-Ok-clause-handled
returns-in-Ok-clause-handled c =
    lent_answered memory_service c.args.event.now c.args.net.now c.step.follows.lender-at-none c.step.result c.step.follows.holds-at-none
    c.in-Ok.field-0 c.in-Ok.is

pub returns-in-Ok-clause-courses : goal.returns-in-Ok-clause-courses
returns-in-Ok-clause-courses c =
    lent_courses memory_service c.args.event.now c.args.net.now c.step.follows.lender-at-none c.step.result c.step.follows.holds-at-none
    tt c.in-Ok.field-0 c.in-Ok.is

pub returns-in-Err-clause-courses : goal.returns-in-Err-clause-courses
returns-in-Err-clause-courses c =
    if_so c.ne.result (CoursesLead c.args.event.now c.args.net.now c.step.follows.lender-at-none)
    (λ other. refused_courses memory_service c.args.event.now c.args.net.now c.step.follows.lender-at-none c.step.result
    c.step.follows.holds-at-none tt c.in-Err.fault c.in-Err.is
    (λ memory. true≢false (sym other ∙ c.ne.ensures ∙ ap (λ (x : StepFault). not (ghosts.eq x OutOfMemory)) memory)))

pub returns-in-Ok-clause-headline : goal.returns-in-Ok-clause-headline
returns-in-Ok-clause-headline c = c.step.follows.holds-at-none.headline tt

pub returns-in-Ok-clause-inner : goal.returns-in-Ok-clause-inner
returns-in-Ok-clause-inner c = c.step.follows.holds-at-none.inner tt
