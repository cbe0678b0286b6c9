use Rattle.service.proofs.AllTerminals.{rounds, round_none, works_at, all_round, all_at}
use Rattle.service.proofs.service.Service.round.Goals as goal

pub returns-clause-works : goal.returns-clause-works
returns-clause-works g c =
    works_at g.L.Line.service c.deref.result.now _ _ _ _ _ _ _ c.deref.ensures.value
    (rounds g.L.Line.service _ _ c.serve_terminals-served.result c.serve_calls-called.result c.deliver_frames-moved.result c.expire-expired.result _ _ _ _ _ _ _ _
    (λ none. round_none c.serve_terminals-served.result c.serve_calls-called.result c.deliver_frames-moved.result c.expire-expired.result none)
    c.serve_terminals-served.ensures (c.serve_calls-called.ensures.steps, c.serve_calls-called.ensures.passes) c.deliver_frames-moved.ensures
    c.expire-expired.ensures)

pub returns-clause-bridges : goal.returns-clause-bridges
returns-clause-bridges g c =
    all_at g.L.Line.service c.deref.result.now _ _ _ _ _ _ _ _ _ c.deref.ensures.value
    (all_round g.L.Line.service _ _ c.serve_terminals-served.result c.serve_calls-called.result c.deliver_frames-moved.result c.expire-expired.result _ _ _ _ _ _ _ _ _ _
    (λ none. round_none c.serve_terminals-served.result c.serve_calls-called.result c.deliver_frames-moved.result c.expire-expired.result none)
    c.args.self.now.channels c.serve_terminals-served.ensures c.serve_calls-called.ensures c.deliver_frames-moved.ensures c.expire-expired.ensures)
