use Rattle.epochs.proofs.OnePass.{pass-decides}
use Rattle.epochs.proofs.laws.decision_law.Goals as goal

pub returns : goal.returns
returns c = record { decides = pass-decides }
