use Rattle.std.proofs.Common.{◌↔◌, map}
use Rattle.epochs.specs.Match.{Match}
use Rattle.epochs.specs.Matching.Epochs.{epoch_of}
use Rattle.epochs.specs.Matching.EpochsLeft.{parts_left}
use Rattle.epochs.proofs.matching.matches.Given as goal

-- what is left is to match what is left
abbrev pub invariant-loop-epoch : goal.invariant-loop-epoch
invariant-loop-epoch l = record {
  can : (goal.iterator-loop-epoch).can_next l.epoch-iterator;
  finite : (goal.iterator-loop-epoch).is_finite l.epoch-iterator;
  same : Match (map epoch_of (parts_left l.initial.epoch-iterator)) (map epoch_of (parts_left l.initial.others))
      ↔ Match (map epoch_of (parts_left l.epoch-iterator)) (map epoch_of (parts_left l.others));
}
