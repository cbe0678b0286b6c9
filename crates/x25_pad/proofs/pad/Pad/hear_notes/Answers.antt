-- All notes are told.
use Rattle.std.proofs.Common.{◌≡◌, length, sym, ◌∙◌, arith}
use Rattle.x25_pad.proofs.Hearing.{told_none}
use Rattle.x25_pad.proofs.pad.Pad.hear_notes.Goals as goal

pub returns-clause-pad : goal.returns-clause-pad
returns-clause-pad c =
    let none : length c.loop.self.line.end.notes ≡ 0 = omega (arith, c.loop.invariant.left, c.loop-test.false) in
    sym (told_none c.loop.self none) ∙ c.loop.invariant.told
