use Rattle.std.proofs.Common.{ap, subst, List}
use Rattle.switch_lines.specs.Lines.{SwitchLine}
use Rattle.switch_lines.specs.Switch.{Switch}
use Rattle.switch_laws.specs.Events.{KeepsLegs}
use Rattle.switch_laws.specs.Events.Event.{Elapses}
use Rattle.x25_switch.specs.SwitchView.{switch_of}
use Rattle.x25_switch.proofs.Holding.{of_lines, holds_after, goes_on}
use Rattle.x25_switch.proofs.switch.Switch.elapse.Goals as goal

pub invariant_of-self : goal.invariant_of-self
invariant_of-self c =
    let routes = c.self.inside.routes in
    let h = holds_after (Elapses c.args.ticks) (switch_of c.self.inside) (of_lines routes c.elapse.new.self) c.self.invariant.legs c.self.invariant.holds
    (ap (λ (ls : List SwitchLine). of_lines routes ls) c.elapse.ensures) in
    record { legs = h.legs; holds = h.holds }

pub returns-clause-legs : goal.returns-clause-legs
returns-clause-legs c =
    subst (λ (s : Switch). KeepsLegs (Elapses c.args.ticks) s (of_lines c.self.inside.routes c.elapse.new.self)) c.self.view_is
    (goes_on (Elapses c.args.ticks) (switch_of c.self.inside) (of_lines c.self.inside.routes c.elapse.new.self)
    (ap (λ (ls : List SwitchLine). of_lines c.self.inside.routes ls) c.elapse.ensures))
