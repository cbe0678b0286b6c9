use Rattle.service.proofs.ServedLines.{all_served}
use Rattle.service.proofs.service.Service.serve_lines.Goals as goal

pub returns-clause-lines : goal.returns-clause-lines
returns-clause-lines g c =
    all_served g.L.Line.service _ _ c.start_node-started.result _ _ _ _ _ c.start_node-started.ensures.starts
    c.start_node-started.ensures.rests c.give_up-given_up.ensures c.read_lines-read.ensures c.carry.ensures
