use Rattle.std.proofs.Common.{ap, subst, List}
use Rattle.switch_lines.specs.Lines.{SwitchLine}
use Rattle.switch_lines.specs.Switch.{Switch}
use Rattle.switch_laws.specs.Events.{KeepsLegs}
use Rattle.switch_laws.specs.Events.Event.{Restarts}
use Rattle.x25_switch.specs.SwitchView.{switch_of}
use Rattle.x25_switch.proofs.Holding.{of_lines, holds_after, goes_on, restart_kept}
use Rattle.x25_switch.proofs.switch.Switch.restart.Goals as goal

pub invariant_of-self : goal.invariant_of-self
invariant_of-self c =
    let routes = c.self.inside.routes in
    let h = holds_after Restarts (switch_of c.self.inside) (of_lines routes c.restart.new.self) c.self.invariant.legs c.self.invariant.holds
    (ap (λ (ls : List SwitchLine). of_lines routes ls) c.restart.ensures) in
    record { legs = h.legs; holds = h.holds }

pub returns-clause-legs : goal.returns-clause-legs
returns-clause-legs c =
    subst (λ (s : Switch). KeepsLegs Restarts s (of_lines c.self.inside.routes c.restart.new.self)) c.self.view_is
    (goes_on Restarts (switch_of c.self.inside) (of_lines c.self.inside.routes c.restart.new.self)
    (ap (λ (ls : List SwitchLine). of_lines c.self.inside.routes ls) c.restart.ensures))

pub returns-clause-nothing_kept_back : goal.returns-clause-nothing_kept_back
returns-clause-nothing_kept_back c =
    restart_kept (switch_of c.self.inside) (of_lines c.self.inside.routes c.restart.new.self)
    (ap (λ (ls : List SwitchLine). of_lines c.self.inside.routes ls) c.restart.ensures)
