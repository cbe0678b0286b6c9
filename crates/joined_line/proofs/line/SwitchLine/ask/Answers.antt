use Rattle.joined_line.proofs.Sharing.{end_served, end_balances}
use Rattle.joined_line.proofs.line.SwitchLine.ask.Goals as goal

pub ask-requires : goal.ask-requires
ask-requires c = end_served c.self.inside c.args.self.now c.args.pool.now c.self.view_is c.self.invariant c.requires

pub returns-clause-pool : goal.returns-clause-pool
returns-clause-pool c =
    end_balances c.self.inside c.args.self.now c.args.pool.now c.ask.new.pool c.ask.new.self c.self.view_is c.ask.ensures.pool
