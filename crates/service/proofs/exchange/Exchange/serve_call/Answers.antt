use Rattle.std.proofs.Common.{sym, ◌∙◌}
use Rattle.service.proofs.EachBridge.{serves_none, serves_past}
use Rattle.service.proofs.exchange.Exchange.serve_call.Goals as goal

pub returns-in_default : goal.returns-in_default
returns-in_default g c = serves_none g.L.Line.service _ _ _

pub returns-then-matches : goal.returns-then-matches
returns-then-matches g c = serves_none g.L.Line.service _ _ _

pub returns-then-have : goal.returns-then-have
returns-then-have g c = serves_none g.L.Line.service _ _ _

pub returns : goal.returns
returns g c =
    serves_past g.L.Line.service _ _ _ _ _ (sym c.have.ensures ∙ c.if-have.false) c.serve_turn.ensures
