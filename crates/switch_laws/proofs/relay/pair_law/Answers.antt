use Rattle.switch_laws.proofs.Pairing.{pairs_hold}
use Rattle.switch_laws.proofs.relay.pair_law.Goals as goal

pub returns : goal.returns
returns c = pairs_hold
