use Rattle.joined_line.proofs.Sharing.{joins_hold, joins_balance}
use Rattle.joined_line.proofs.line.SwitchLine.renew.Goals as goal

pub renew-requires : goal.renew-requires
renew-requires c = joins_hold c.self.inside c.args.self.now c.args.pool.now c.self.view_is c.requires.holds

pub returns-clause-pool : goal.returns-clause-pool
returns-clause-pool c =
    joins_balance c.self.inside c.args.self.now c.args.pool.now c.renew.new.pool c.renew.new.self c.self.view_is c.renew.ensures.pool
