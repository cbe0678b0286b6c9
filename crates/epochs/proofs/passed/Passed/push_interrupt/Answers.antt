use Rattle.std.proofs.Common.{ap, ◌∙◌}
use Rattle.epochs.specs.Passed.{PassedState, with_interrupt}
use Rattle.epochs.proofs.Cutting.{interrupt_passed, in_order_interrupt}
use Rattle.epochs.proofs.passed.Passed.push_interrupt.Goals as goal

pub invariant_of-self : goal.invariant_of-self
invariant_of-self c =
    let a = c.self.inside in
    in_order_interrupt a.ends.items a.counted a.packets.packets a.interrupts.items c.args.interrupt c.push_reserved.new.self.items c.self.invariant c.push_reserved.ensures.items

pub returns-clause-epochs : goal.returns-clause-epochs
returns-clause-epochs c =
    let a = c.self.inside in
    interrupt_passed a.ends.items a.counted a.packets.packets a.interrupts.items c.args.interrupt c.push_reserved.new.self.items c.self.invariant c.push_reserved.ensures.items
    ∙ ap (λ (s : PassedState). with_interrupt c.args.interrupt s.epochs) c.self.view_is
