use Rattle.network_runs.proofs.Numbers.{numbers_run}
use Rattle.network_runs.proofs.numbers_run.Goals as goal

pub returns : goal.returns
returns c = numbers_run
