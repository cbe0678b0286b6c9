use Rattle.xot_gateway.proofs.Carrying.{carry_law, channel_law}
use Rattle.xot_gateway.proofs.law.xot_calls_law.Goals as goal

pub returns-clause-carried : goal.returns-clause-carried
returns-clause-carried c = carry_law

pub returns-clause-own : goal.returns-clause-own
returns-clause-own c = channel_law
