use Rattle.live_laws.proofs.Turns.{turns_alike}
use Rattle.live_laws.proofs.Apart.{happens_apart}
use Rattle.live_laws.proofs.laws.any_register_law.Goals as goal

pub returns : goal.returns
returns g c = record { turns = turns_alike; happens = happens_apart g.L.Line.service }
