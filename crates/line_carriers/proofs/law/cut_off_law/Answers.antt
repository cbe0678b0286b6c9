use Rattle.line_carriers.proofs.CutOffs.{cut_off_law}
use Rattle.line_carriers.proofs.law.cut_off_law.Goals as goal

pub returns : goal.returns
returns c = cut_off_law
