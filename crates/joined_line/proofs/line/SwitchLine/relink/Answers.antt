use Rattle.joined_line.proofs.Sharing.{end_served, end_balances}
use Rattle.joined_line.proofs.line.SwitchLine.relink.Goals as goal

pub relink-requires-clause-pool : goal.relink-requires-clause-pool
relink-requires-clause-pool c = end_served c.self.inside c.args.self.now c.args.pool.now c.self.view_is c.self.invariant c.requires.pool

pub returns-clause-pool : goal.returns-clause-pool
returns-clause-pool c =
    end_balances c.self.inside c.args.self.now c.args.pool.now c.relink.new.pool c.relink.new.self c.self.view_is c.relink.ensures.pool
