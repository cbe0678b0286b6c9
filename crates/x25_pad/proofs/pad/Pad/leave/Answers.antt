-- What happens at a port.
use Rattle.std.proofs.Common.{length, ap, arith}
use Rattle.pad_ports.specs.Ports as port
use Rattle.x25_pad.specs.Pad.{PadState}
use Rattle.x25_pad.specs.PadView.{pad_of}
use Rattle.x25_pad.proofs.Acting.{acts_at}
use Rattle.x25_pad.proofs.Settling.{one_touched, count_written}
use Rattle.x25_pad.proofs.pad.Pad.leave.Goals as goal

pub returns-clause-pad : goal.returns-clause-pad
returns-clause-pad c =
    acts_at port.after_leaving (pad_of c.self.inside) c.args.self.now c.args.terminal c.from-number.result c.index_mut.result.now
    c.leave.new.self c.at_terminal.new.self c.leave.new.line c.self.view_is c.from-number.ensures c.requires.there
    c.index_mut.ensures.value c.at_terminal.ensures c.leave.ensures.port c.leave.ensures.line

pub invariant_of-self : goal.invariant_of-self
invariant_of-self c =
    let ports = c.self.inside.ports.items in
    let has = ap (λ (p : PadState). length p.ports) c.self.view_is in
    let count = count_written ports c.from-number.result c.leave.new.self in
    record {
      most = omega (arith, c.self.invariant.most, count);
      rest = one_touched c.self.inside.touched c.insert.new.self c.from-number.result ports c.leave.new.self c.insert.ensures
          (omega (arith, has, c.requires.there, c.from-number.ensures)) c.self.invariant.rest;
    }
