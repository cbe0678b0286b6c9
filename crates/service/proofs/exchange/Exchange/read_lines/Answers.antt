use Rattle.service.proofs.ServedLines.{all_none, all_read_on}
use Rattle.service.proofs.exchange.Exchange.read_lines.Goals as goal

pub loop-place-init : goal.loop-place-init
loop-place-init g c = all_none g.L.Line.service _

pub loop-place-preserved : goal.loop-place-preserved
loop-place-preserved g c =
    all_read_on g.L.Line.service _ _ _ _ _ _ _ _ c.loop-place.invariant c.line_read-reading.ensures c.see_arrival.ensures
