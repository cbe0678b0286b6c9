use Rattle.network_runs.proofs.Trunk.{trunk_run}
use Rattle.network_runs.proofs.trunk_run.Goals as goal

pub returns : goal.returns
returns c = trunk_run
