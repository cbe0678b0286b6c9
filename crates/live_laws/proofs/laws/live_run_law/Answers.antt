use Rattle.live_laws.proofs.Runs.{live_runs}
use Rattle.live_laws.proofs.laws.live_run_law.Goals as goal

pub returns : goal.returns
returns g c = live_runs g.L.Line.service
