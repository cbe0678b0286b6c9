-- What happens at a port.
use Rattle.std.proofs.Common.{length, ap, arith, false, ◌∙◌}
use Rattle.pad_ports.specs.Ports as port
use Rattle.x25_pad.specs.Pad.{PadState}
use Rattle.x25_pad.specs.PadView.{pad_of}
use Rattle.x25_pad.proofs.Acting.{acts_at, seen_at}
use Rattle.x25_pad.proofs.Settling.{one_touched, count_written}
use Rattle.x25_pad.proofs.pad.Pad.press.Goals as goal

pub returns-clause-pad : goal.returns-clause-pad
returns-clause-pad c =
    acts_at (port.after_key c.args.octet) (pad_of c.self.inside) c.args.self.now c.args.terminal c.from-number.result c.index_mut.result.now
    c.press.new.self c.at_terminal.new.self c.press.new.line c.self.view_is c.from-number.ensures c.requires.there
    c.index_mut.ensures.value c.at_terminal.ensures c.press.ensures.port c.press.ensures.line

pub returns-clause-taken : goal.returns-clause-taken
returns-clause-taken c =
    c.press.ensures.taken
    ∙ seen_at (λ a. port.is_taken (port.key_input c.args.octet a).answer) false (pad_of c.self.inside) c.args.self.now c.args.terminal c.from-number.result
    c.index_mut.result.now c.at_terminal.new.self c.self.view_is c.from-number.ensures c.requires.there c.index_mut.ensures.value
    c.at_terminal.ensures

pub invariant_of-self : goal.invariant_of-self
invariant_of-self c =
    let ports = c.self.inside.ports.items in
    let has = ap (λ (p : PadState). length p.ports) c.self.view_is in
    let count = count_written ports c.from-number.result c.press.new.self in
    record {
      most = omega (arith, c.self.invariant.most, count);
      rest = one_touched c.self.inside.touched c.insert.new.self c.from-number.result ports c.press.new.self c.insert.ensures
          (omega (arith, has, c.requires.there, c.from-number.ensures)) c.self.invariant.rest;
    }
