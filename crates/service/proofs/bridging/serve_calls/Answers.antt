use Rattle.service.proofs.EachBridge.{serves_either}
use Rattle.service.proofs.bridging.serve_calls.Goals as goal

pub returns : goal.returns
returns g c =
    serves_either g.L.Line.service _ _ _ _ _ _ _ _
    (serves_either g.L.Line.service _ _ _ _ _ _ _ _ c.serve_calls-called.ensures c.deliver_letters-told.ensures)
    c.serve_ports-served.ensures
