use Rattle.service.proofs.Served.{serves_all}
use Rattle.service.proofs.rounds.serve_terminal.Goals as goal

pub returns : goal.returns
returns g c =
    serves_all g.L.Line.service c.args.at _ _ _ _ _ _ _ _ _ _ _ c.tell-told.ensures c.type_some-typed.ensures c.show_next-shown.ensures
