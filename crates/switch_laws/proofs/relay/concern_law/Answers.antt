use Rattle.switch_laws.proofs.Alone.{concerns_hold}
use Rattle.switch_laws.proofs.relay.concern_law.Goals as goal

pub returns : goal.returns
returns c = concerns_hold
