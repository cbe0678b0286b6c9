use Rattle.gateway_end.proofs.Giving.{pass_then}
use Rattle.gateway_end.proofs.end.GatewayEnd.pass_packets.Goals as goal

pub loop-preserved : goal.loop-preserved
loop-preserved c = record {
  pass = pass_then c.args.self.now c.loop.self c.pass_next.new.self c.loop.invariant.pass c.pass_next.ensures.pass;
  held_back = c.pass_next.ensures.held_back;
}

pub returns-then-not-pass_next-clause-pass : goal.returns-then-not-pass_next-clause-pass
returns-then-not-pass_next-clause-pass c =
    pass_then c.args.self.now c.loop.self c.pass_next.new.self c.loop.invariant.pass c.pass_next.ensures.pass
