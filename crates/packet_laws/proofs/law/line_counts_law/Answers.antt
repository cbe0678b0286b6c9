use Rattle.packet_laws.proofs.Line.Counted.{line_counts}
use Rattle.packet_laws.proofs.law.line_counts_law.Goals as goal

pub returns : goal.returns
returns c = line_counts
