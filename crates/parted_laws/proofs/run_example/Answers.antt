use Rattle.parted_laws.proofs.run_example.Goals as goal
use Rattle.parted_laws.proofs.Example.{run_example as runs}

pub returns : goal.returns
returns c = runs
