use Rattle.joined_line.proofs.Sharing.{joins_hold, joins_balance}
use Rattle.joined_line.proofs.line.SwitchLine.set_joined.Goals as goal

pub set-requires : goal.set-requires
set-requires c = joins_hold c.self.inside c.args.self.now c.args.pool.now c.self.view_is c.requires.holds

pub returns-clause-pool : goal.returns-clause-pool
returns-clause-pool c =
    joins_balance c.self.inside c.args.self.now c.args.pool.now c.set.new.pool c.set.new.self c.self.view_is c.set.ensures.pool
