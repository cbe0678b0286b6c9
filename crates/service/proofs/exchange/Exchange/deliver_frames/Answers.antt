use Rattle.std.proofs.Common.{arith}
use Rattle.service.proofs.AllTerminals.{delivers_none, delivers_more, delivers_all}
use Rattle.service.proofs.exchange.Exchange.deliver_frames.Goals as goal

pub loop-line-init : goal.loop-line-init
loop-line-init g c = delivers_none g.L.Line.service _

pub loop-line-preserved : goal.loop-line-preserved
loop-line-preserved g c =
    delivers_more g.L.Line.service _ _ _ _ _ _ _ _ c.loop-line.invariant c.deliver-from_dte.ensures c.deliver-from_dce.ensures

pub returns : goal.returns
returns g c = delivers_all g.L.Line.service c.loop-line.line c.args.lines _ _ _ (omega arith) c.loop-line.invariant
