use Rattle.joined_line.proofs.Sharing.{end_served, end_balances}
use Rattle.joined_line.proofs.line.SwitchLine.offer.Goals as goal

pub offer_packets-requires : goal.offer_packets-requires
offer_packets-requires c = end_served c.self.inside c.args.self.now c.args.pool.now c.self.view_is c.self.invariant c.requires

pub returns-clause-pool : goal.returns-clause-pool
returns-clause-pool c =
    end_balances c.self.inside c.args.self.now c.args.pool.now c.offer_packets.new.pool c.offer_packets.new.self c.self.view_is c.offer_packets.ensures.pool
