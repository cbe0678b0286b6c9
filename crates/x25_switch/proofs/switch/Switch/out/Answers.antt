use Rattle.std.proofs.Common.{ap, subst, List}
use Rattle.switch_lines.specs.Lines.{SwitchLine}
use Rattle.switch_lines.specs.Switch.{Switch}
use Rattle.switch_laws.specs.Events.{KeepsLegs}
use Rattle.switch_laws.specs.Events.Event.{Departs}
use Rattle.x25_switch.specs.SwitchView.{switch_of}
use Rattle.x25_switch.proofs.Holding.{of_lines, holds_after, goes_on}
use Rattle.x25_switch.proofs.switch.Switch.out.Goals as goal

pub invariant_of-self : goal.invariant_of-self
invariant_of-self c =
    let routes = c.self.inside.routes in
    let h = holds_after (Departs c.args.line) (switch_of c.self.inside) (of_lines routes c.out.new.self) c.self.invariant.legs c.self.invariant.holds
    (ap (λ (ls : List SwitchLine). of_lines routes ls) c.out.ensures.lines) in
    record { legs = h.legs; holds = h.holds }

pub returns-clause-legs : goal.returns-clause-legs
returns-clause-legs c =
    subst (λ (s : Switch). KeepsLegs (Departs c.args.line) s (of_lines c.self.inside.routes c.out.new.self)) c.self.view_is
    (goes_on (Departs c.args.line) (switch_of c.self.inside) (of_lines c.self.inside.routes c.out.new.self)
    (ap (λ (ls : List SwitchLine). of_lines c.self.inside.routes ls) c.out.ensures.lines))
