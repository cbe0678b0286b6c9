use Rattle.record_laws.proofs.CallPaths.Forwarding.{made_handed_on, stays_handed_on, relayed_joins}
use Rattle.record_laws.proofs.call_path.forward_law.Goals as goal

pub returns : goal.returns
returns c = record { made = made_handed_on; events = stays_handed_on; joins = relayed_joins }
