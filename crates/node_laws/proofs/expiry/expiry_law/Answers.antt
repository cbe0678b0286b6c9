use Rattle.node_laws.proofs.Expiring.{fewer-due}
use Rattle.node_laws.proofs.expiry.expiry_law.Goals as goal

pub returns : goal.returns
returns c = fewer-due
