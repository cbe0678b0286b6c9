use Rattle.packet_laws.proofs.Line.LineHolds.{line_holds}
use Rattle.packet_laws.proofs.law.line_law.Goals as goal

pub returns : goal.returns
returns c = line_holds
