use Rattle.packet_laws.proofs.Naming.{counts_hold}
use Rattle.packet_laws.proofs.law.counts_law.Goals as goal

pub returns : goal.returns
returns c = counts_hold
