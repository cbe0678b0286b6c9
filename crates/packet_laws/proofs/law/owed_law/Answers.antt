use Rattle.packet_laws.proofs.Owed.OwedHolds.{owed_holds}
use Rattle.packet_laws.proofs.law.owed_law.Goals as goal

pub returns : goal.returns
returns c = owed_holds
