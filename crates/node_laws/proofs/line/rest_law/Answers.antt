use Rattle.node_laws.proofs.Lines.Resting.{nothing_missing}
use Rattle.node_laws.proofs.line.rest_law.Goals as goal

pub returns : goal.returns
returns c = nothing_missing
