-- The port that learns is in the set.
use Rattle.std.proofs.Common.{List, length, ap, arith}
use Rattle.pad_ports.specs.Ports.{PortState}
use Rattle.x25_pad.proofs.Settling.{one_touched}
use Rattle.x25_pad.proofs.pad.events.learn.Goals as goal

pub returns-in-Some-get_mut-clause-rest : goal.returns-in-Some-get_mut-clause-rest
returns-in-Some-get_mut-clause-rest c =
    let all = ap (λ (ports : List PortState). length ports) c.as_slice.ensures.value in
    one_touched c.args.touched.now c.insert.new.self c.in-Some.number c.args.ports.now.items c.learn.new.self c.insert.ensures
    (omega (arith, all, c.in-Some.ensures.within)) c.requires.rest
