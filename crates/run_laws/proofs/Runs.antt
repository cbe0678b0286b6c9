-- A list of events leads to one network.
use Rattle.std.proofs.Common.{◌≡◌, List, [], ◌∷◌, Option, Some, None, sym, ◌∙◌, subst}
use Rattle.frame_lines.specs.Lines.{memory_service}
use Rattle.net_config.specs.Plan.{plan_of}
use Rattle.net_events.specs.declared.event.Event.{Event}
use Rattle.net_events.specs.declared.event.StepFault.{StepFault}
use Rattle.net_events.specs.Network.{Network}
use Rattle.net_nodes.specs.Faults.{step_fault}
use Rattle.line_sim.specs.Between.{IsBetweenEvents}
use Rattle.line_sim.specs.Runs.{IsHandled, Ran}
use Rattle.line_sim.proofs.Events.{made, stepped}
use Rattle.run_laws.specs.Determined.{RunLaw}
use Rattle.run_laws.proofs.Steps.{step_once}
use Rattle.run_laws.proofs.Making.{making_once}

handled_once : (e : Event) (s t u : Network) (fault : Option StepFault) → IsBetweenEvents memory_service s
    → IsHandled memory_service e s fault t → IsHandled memory_service e s fault u → t ≡ u
handled_once e s t u None holds p q = (step_once e s t u p.0 q.0 holds p.1 q.1).1
handled_once e s t u (Some fault) holds p q = p ∙ sym q

handled_holds : (e : Event) (s t : Network) (fault : Option StepFault) → IsBetweenEvents memory_service s
    → IsHandled memory_service e s fault t → IsBetweenEvents memory_service t
handled_holds e s t None holds p = stepped memory_service e s p.0 t holds p.1
handled_holds e s t (Some fault) holds p = subst (IsBetweenEvents memory_service) (sym p) holds

ran_once : (es : List Event) (s r t u : Network) → s ≡ r → IsBetweenEvents memory_service s
    → Ran memory_service s es t → Ran memory_service r es u → t ≡ u
ran_once [] s r t u same holds p q = sym p ∙ same ∙ q
ran_once (e ∷ es) s r t u same holds p q =
    let fault : Option StepFault = step_fault e s in
    let other : IsHandled memory_service e s fault q.0
    = subst (λ (x : Network). IsHandled memory_service e x (step_fault e x) q.0) (sym same) q.1 in
    ran_once es p.0 q.0 t u (handled_once e s p.0 q.0 fault holds p.1 other) (handled_holds e s p.0 fault holds p.1) p.2
    q.2

pub run_once : RunLaw
run_once config events s t p q =
    ran_once events p.start q.start s t (making_once config p.start q.start p.made q.made)
    (made memory_service (plan_of config) p.start p.made.planned p.made.made) p.ran q.ran
