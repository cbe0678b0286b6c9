use Rattle.joined_line.proofs.Sharing.{end_served}
use Rattle.joined_line.proofs.line.SwitchLine.settle.Goals as goal

pub settle-requires : goal.settle-requires
settle-requires c = end_served c.self.inside c.args.self.now c.args.pool.now c.self.view_is c.self.invariant c.requires
