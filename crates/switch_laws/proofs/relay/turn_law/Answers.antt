use Rattle.switch_laws.proofs.Finishing.{turns}
use Rattle.switch_laws.proofs.relay.turn_law.Goals as goal

pub returns : goal.returns
returns c = turns
