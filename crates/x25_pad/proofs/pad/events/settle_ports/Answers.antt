-- One port more.
use Rattle.std.proofs.Common.{ap, sym, ◌∙◌}
use Rattle.pad_ports.specs.Ports.{PortState, settled}
use Rattle.x25_pad.proofs.Settling.{begins, one_waits, one_done, ends}
use Rattle.x25_pad.proofs.pad.events.settle_ports.Goals as goal

pub loop-number-init : goal.loop-number-init
loop-number-init c =
    begins c.args.line.now c.args.touched c.new-waiting.result c.args.ports.now c.new-waiting.ensures c.requires

pub loop-number-preserved-then-not-settle : goal.loop-number-preserved-then-not-settle
loop-number-preserved-then-not-settle c =
    one_waits c.args.line.now c.loop-number.touched c.take_first.new.self c.loop-number.waiting c.insert.new.self
    c.args.ports.now c.loop-number.ports c.in-Some.number c.index-ports-number.result c.settle.new.self
    c.in-Some.ensures.first c.loop-number.invariant c.index-ports-number.is (c.settle.ensures.port ∙ ap (λ (p : PortState). settled c.args.line.now p) (sym c.index-ports-number.is)) c.insert.ensures

pub loop-number-preserved : goal.loop-number-preserved
loop-number-preserved c =
    one_done c.args.line.now c.loop-number.touched c.take_first.new.self c.loop-number.waiting
    c.args.ports.now c.loop-number.ports c.in-Some.number c.index-ports-number.result c.settle.new.self
    c.in-Some.ensures.first c.loop-number.invariant c.index-ports-number.is (c.settle.ensures.port ∙ ap (λ (p : PortState). settled c.args.line.now p) (sym c.index-ports-number.is)) c.if-not-settle.ensures.settled

pub returns : goal.returns
returns c =
    let all =
    ends c.args.line.now c.loop-number.touched c.loop-number.waiting c.args.ports.now c.loop-number.ports
    c.in_default.ensures.first c.loop-number.invariant in
    record { ports = all.0; rest = all.1 }
