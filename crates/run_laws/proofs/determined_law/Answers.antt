use Rattle.run_laws.proofs.Steps.{step_once}
use Rattle.run_laws.proofs.Making.{making_once}
use Rattle.run_laws.proofs.Runs.{run_once}
use Rattle.run_laws.proofs.determined_law.Goals as goal

pub returns : goal.returns
returns c = record { making = making_once; step = step_once; run = run_once }
