use Rattle.std.proofs.Common.{arith}
use Rattle.std.proofs.lemmas.Grind.{common_steps}
use Rattle.joined_line.proofs.Sharing.{end_served, end_balances}
use Rattle.joined_line.proofs.line.SwitchLine.on_timer.Goals as goal

pub on_timer-requires-clause-pool : goal.on_timer-requires-clause-pool
on_timer-requires-clause-pool c = end_served c.self.inside c.args.self.now c.args.pool.now c.self.view_is c.self.invariant c.requires.pool

pub returns-clause-pool : goal.returns-clause-pool
returns-clause-pool c =
    end_balances c.self.inside c.args.self.now c.args.pool.now c.on_timer.new.pool c.on_timer.new.self c.self.view_is c.on_timer.ensures.pool

pub returns-clause-within : goal.returns-clause-within
returns-clause-within c = grind (arith, common_steps)
