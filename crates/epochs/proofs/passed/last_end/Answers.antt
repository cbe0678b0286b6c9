use Rattle.std.proofs.Common.{Option, ap, ◌∙◌}
use Rattle.std.specs.Prelude.{unwrap_or}
use Rattle.epochs.specs.EpochEnds.{outset}
use Rattle.epochs.specs.declared.passed.EpochEnd.{EpochEnd}
use Rattle.epochs.proofs.Cutting.{last_is}
use Rattle.epochs.proofs.passed.last_end.Goals as goal

pub returns : goal.returns
returns c =
    c.unwrap_or.ensures ∙ ap (λ (o : Option EpochEnd). unwrap_or o outset) (c.copied.ensures ∙ c.last.ensures.value)
    ∙ last_is outset c.args.ends.now
