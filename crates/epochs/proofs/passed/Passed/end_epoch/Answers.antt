use Rattle.std.proofs.Common.{ℕ, List, ap, ◌∙◌}
use Rattle.epochs.specs.Passed.{PassedState, with_end}
use Rattle.epochs.proofs.Cutting.{now_at, epoch_ended, in_order_end}
use Rattle.epochs.proofs.passed.Passed.end_epoch.Goals as goal

pub invariant_of-self : goal.invariant_of-self
invariant_of-self c =
    let a = c.self.inside in
    let ps = a.packets.packets in
    let here = c.end_here-here.ensures ∙ ap (λ (is : List (List ℕ)). now_at a.counted ps is) c.as_slice.ensures.value in
    in_order_end a.ends.items a.counted ps a.interrupts.items c.end_here-here.result c.push_reserved.new.self.items here c.push_reserved.ensures.items c.self.invariant

pub returns-clause-epochs : goal.returns-clause-epochs
returns-clause-epochs c =
    let a = c.self.inside in
    let ps = a.packets.packets in
    let here = c.end_here-here.ensures ∙ ap (λ (is : List (List ℕ)). now_at a.counted ps is) c.as_slice.ensures.value in
    epoch_ended a.ends.items a.counted ps a.interrupts.items c.end_here-here.result c.push_reserved.new.self.items here c.push_reserved.ensures.items
    ∙ ap (λ (s : PassedState). with_end s.epochs) c.self.view_is
