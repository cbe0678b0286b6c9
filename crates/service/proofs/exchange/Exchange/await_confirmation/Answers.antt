use Rattle.service.proofs.Bridged.{carries_turn}
use Rattle.service.proofs.exchange.Exchange.await_confirmation.Goals as goal

pub returns-then-confirmed : goal.returns-then-confirmed
returns-then-confirmed g c = carries_turn g.L.Line.service c.args.at _ _ _ _ _ c.confirmed.ensures
