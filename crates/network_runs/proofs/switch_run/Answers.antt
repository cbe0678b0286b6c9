use Rattle.network_runs.proofs.OneSwitch.{switch_run}
use Rattle.network_runs.proofs.switch_run.Goals as goal

pub returns : goal.returns
returns c = switch_run
