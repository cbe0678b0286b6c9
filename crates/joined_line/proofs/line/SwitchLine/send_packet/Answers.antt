use Rattle.joined_line.proofs.Sharing.{end_takes}
use Rattle.joined_line.proofs.line.SwitchLine.send_packet.Goals as goal

pub returns-clause-pool : goal.returns-clause-pool
returns-clause-pool c =
    end_takes c.self.inside c.args.self.now c.args.pool.now c.send_on.new.pool c.args.packet.buffer c.send_on.new.line c.self.view_is c.send_on.ensures.pool
