use Rattle.live_laws.proofs.Blind.{happens_blind}
use Rattle.live_laws.proofs.laws.blind_law.Goals as goal

pub returns : goal.returns
returns g c = happens_blind g.L.Line.service
