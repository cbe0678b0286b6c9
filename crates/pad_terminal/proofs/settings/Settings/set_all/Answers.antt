-- One pair more.
use Rattle.std.proofs.Common.{ℕ, get_or, ap, sym, ◌∙◌, arith}
use Rattle.pad_terminal.specs.Settings.{Change, one_more}
use Rattle.pad_terminal.proofs.Reports.{pairs_more}
use Rattle.pad_terminal.proofs.settings.Settings.set_all.Goals as goal

pub loop-number-preserved : goal.loop-number-preserved
loop-number-preserved c =
    let i = c.loop-number.number-index in
    let pair : ℕ × ℕ = get_or c.args.pairs.now i (0, 0) in
    let more = pairs_more c.args.pairs.now c.args.self.now i (0, 0) c.loop-number-test.true in (
      rw (c.push.ensures.items, c.set_one.ensures.settings, c.set_one.ensures.setting)
          (ap (λ (change : Change). one_more change pair) c.loop-number.invariant.0 ∙ sym more),
      omega arith,
    )
