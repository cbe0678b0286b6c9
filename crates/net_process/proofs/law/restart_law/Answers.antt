use Rattle.net_process.proofs.Restarts.{may_restart}
use Rattle.net_process.proofs.law.restart_law.Goals as goal

pub returns : goal.returns
returns c = may_restart
