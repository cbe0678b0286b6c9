use Rattle.network_runs.proofs.Sizes.{sizes_run}
use Rattle.network_runs.proofs.sizes_run.Goals as goal

pub returns : goal.returns
returns c = sizes_run
