use Rattle.std.proofs.Common.{length, ap, arith}
use Rattle.epochs.specs.Passed.{PassedState}
use Rattle.epochs.specs.EpochEnds.{outset}
use Rattle.epochs.proofs.Cutting.{parts_length}
use Rattle.epochs.proofs.passed.Passed.ended.Goals as goal

pub returns : goal.returns
returns c =
    let a = c.self.inside in
    omega (
      arith,
      c.len.ensures,
      a.ends.ok,
      parts_length outset a.ends.items a.packets.packets a.interrupts.items,
      ap (λ (s : PassedState). length s.epochs.before) c.self.view_is,
    )
