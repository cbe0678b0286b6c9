use Rattle.service.proofs.Bridged.{carries_either, carries_same}
use Rattle.service.proofs.exchange.Exchange.serve_call_at.Goals as goal

pub returns-clause-carries : goal.returns-clause-carries
returns-clause-carries g c =
    carries_same g.L.Line.service c.args.at _ _ _ _ _ _ c.forget_call.ensures.bridge
    (carries_either g.L.Line.service c.args.at _ _ _ _ _ _ _ _ c.ask_next-asked.ensures.carries c.take_some-took.ensures)
