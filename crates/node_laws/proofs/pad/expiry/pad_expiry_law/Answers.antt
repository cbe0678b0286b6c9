use Rattle.node_laws.proofs.Pads.Expiring.{expires}
use Rattle.node_laws.proofs.pad.expiry.pad_expiry_law.Goals as goal

pub returns : goal.returns
returns c = expires
