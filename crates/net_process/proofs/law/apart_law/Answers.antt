use Rattle.net_process.proofs.Apart.{apart}
use Rattle.net_process.proofs.law.apart_law.Goals as goal

pub returns : goal.returns
returns g c = apart g.L.Line.service
