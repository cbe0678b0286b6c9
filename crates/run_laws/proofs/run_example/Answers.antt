use Rattle.run_laws.proofs.Running.{run_example}
use Rattle.run_laws.proofs.run_example.Goals as goal

pub returns : goal.returns
returns c = run_example
