use Rattle.line_carriers.proofs.Openings.{open_law}
use Rattle.line_carriers.proofs.law.opening_law.Goals as goal

pub returns : goal.returns
returns c = open_law
