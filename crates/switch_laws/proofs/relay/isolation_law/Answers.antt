use Rattle.switch_laws.proofs.Untouched.{others_are_left}
use Rattle.switch_laws.proofs.relay.isolation_law.Goals as goal

pub returns : goal.returns
returns c = others_are_left
