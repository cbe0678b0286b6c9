use Rattle.std.proofs.Common.{ap, arith, length, sym, ◌∙◌}
use Rattle.std.proofs.lemmas.Grind.{common_steps}
use Rattle.link_timers.proofs.DueLaws.{due_members}
use Rattle.link_timers.proofs.timers.Timers.tick.Goals as goal

pub returns-clause-due : goal.returns-clause-due
returns-clause-due c = grind (arith, common_steps)

pub returns-clause-members : goal.returns-clause-members
returns-clause-members c =
    due_members c.elapse.new.self c.loop-place.due.items (returns-clause-due c)
    (ap length (sym c.self.view_is) ∙ c.self.invariant)
