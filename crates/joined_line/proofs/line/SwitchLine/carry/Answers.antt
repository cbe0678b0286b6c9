use Rattle.joined_line.proofs.Sharing.{joins_hold, joins_balance}
use Rattle.joined_line.proofs.line.SwitchLine.carry.Goals as goal

pub carry-requires-clause-holds : goal.carry-requires-clause-holds
carry-requires-clause-holds c = joins_hold c.self.inside c.args.self.now c.args.pool.now c.self.view_is c.requires.pool.holds

pub returns-clause-pool : goal.returns-clause-pool
returns-clause-pool c =
    joins_balance c.self.inside c.args.self.now c.args.pool.now c.carry.new.pool c.carry.new.self c.self.view_is c.carry.ensures.pool
