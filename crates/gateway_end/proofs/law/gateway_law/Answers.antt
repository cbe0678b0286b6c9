use Rattle.gateway_end.proofs.Passing.{pass_law}
use Rattle.gateway_end.proofs.law.gateway_law.Goals as goal

pub returns : goal.returns
returns c = pass_law
