use Rattle.std.proofs.Common.{arith}
use Rattle.data_transfer.proofs.Windows.{window_small}
use Rattle.joined_line.proofs.Making.{small}
use Rattle.joined_line.proofs.config.SwitchLineConfig.buffers.Goals as goal

pub returns-clause-most : goal.returns-clause-most
returns-clause-most c =
    let p = c.requires.params in
    let few = small c.args.self.now.params.k c.args.self.now.params.channels c.args.self.now.params.flow p.link.k_most p.layer.channels_most (window_small _ p.layer.flow_is) in
    omega (arith, few, c.buffers.ensures, c.from.ensures)
