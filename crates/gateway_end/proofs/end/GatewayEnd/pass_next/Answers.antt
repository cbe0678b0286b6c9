use Rattle.gateway_end.proofs.Giving.{pass_then}
use Rattle.gateway_end.proofs.end.GatewayEnd.pass_next.Goals as goal

pub returns-clause-pass : goal.returns-clause-pass
returns-clause-pass c =
    pass_then c.args.self.now c.ask-asked.new.self c.hand_over.new.self c.ask-asked.ensures c.hand_over.ensures.pass
