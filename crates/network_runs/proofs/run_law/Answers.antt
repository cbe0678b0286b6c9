use Rattle.network_runs.proofs.Plans.{plan_is, made_so}
use Rattle.network_runs.proofs.Steps.{act_goes}
use Rattle.network_runs.proofs.Running.{run_is}
use Rattle.network_runs.proofs.run_law.Goals as goal

pub returns : goal.returns
returns c = record { making = record { plan = plan_is; made = made_so }; act = act_goes; run = run_is }
