use Rattle.live_net.proofs.Made.{made_bare}
use Rattle.live_net.proofs.making.bare_nodes.Goals as goal

pub returns-clause-ok : goal.returns-clause-ok
returns-clause-ok g c =
    made_bare g.L.Line.service c.args.config.now _ _ _ c.in_ok-new.ensures.ok c.in_ok-new.ensures.courses
    c.into_nodes-nodes.ensures.same c.into_nodes-nodes.ensures.between c.forget.ensures
