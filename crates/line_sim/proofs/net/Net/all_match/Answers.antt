use Rattle.line_sim.proofs.Matched.{all_matched}
use Rattle.line_sim.proofs.net.Net.all_match.Goals as goal

pub returns-clause-faithful : goal.returns-clause-faithful
returns-clause-faithful g c = λ f.
    c.all_match.ensures.1
    (rw (c.records.ensures, c.pairs.ensures) (all_matched g.L.Line.service _ c.self.invariant.between.any f))
