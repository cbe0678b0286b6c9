use Rattle.network_runs.proofs.Pads.{pad_run}
use Rattle.network_runs.proofs.pad_run.Goals as goal

pub returns : goal.returns
returns c = pad_run
