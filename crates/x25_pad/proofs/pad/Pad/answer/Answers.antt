use Rattle.std.proofs.Common.{length, ap, arith}
use Rattle.std.proofs.lemmas.Grind.{common_steps, elements}
use Rattle.x25_pad.specs.Pad.{PadState}
use Rattle.x25_pad.proofs.Settling.{one_touched}
use Rattle.x25_pad.proofs.pad.Pad.answer.Goals as goal

pub returns-clause-pad : goal.returns-clause-pad
returns-clause-pad c = grind (arith, elements)

pub invariant_of-self-2 : goal.invariant_of-self-2
invariant_of-self-2 c =
    let seen = ap (λ (p : PadState). length p.ports) c.self.view_is in
    record {
      most = grind (arith, common_steps);
      rest = one_touched _ c.insert.new.self c.in-Some-first_free.number _ c.connect.new.self c.insert.ensures
          (omega (arith, seen, c.in-Some-first_free.ensures.within)) c.self.invariant.rest;
    }
