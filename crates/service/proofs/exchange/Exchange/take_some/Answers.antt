use Rattle.std.proofs.Common.{true, false}
use Rattle.service.proofs.Bridged.{carries_with, carries_more}
use Rattle.service.proofs.exchange.Exchange.take_some.Goals as goal

pub returns-then-not-take_packet : goal.returns-then-not-take_packet
returns-then-not-take_packet g c =
    carries_with g.L.Line.service c.args.at _ false _ _ _ _ c.if-not-take_packet.true c.take_packet.ensures

pub loop-init : goal.loop-init
loop-init g c = carries_with g.L.Line.service c.args.at _ true _ _ _ _ c.if-not-take_packet.false c.take_packet.ensures

pub loop-preserved : goal.loop-preserved
loop-preserved g c =
    carries_more g.L.Line.service c.args.at _ _ _ _ _ _ _ _ c.loop.invariant c.take_packet-in-loop.ensures

pub returns-then-not-take_packet-2 : goal.returns-then-not-take_packet-2
returns-then-not-take_packet-2 g c =
    carries_more g.L.Line.service c.args.at _ _ _ _ _ _ _ _ c.loop.invariant c.take_packet-in-loop.ensures
