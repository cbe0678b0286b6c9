use Rattle.std.proofs.Common.{◌↔◌, List, ◌∷◌, map, length}
use Rattle.epochs.specs.Epoch.{Epoch}
use Rattle.epochs.specs.Match.{Match}
use Rattle.epochs.specs.Matching.Epochs.{epoch_of}
use Rattle.epochs.specs.Matching.EpochsLeft.{part_at, parts_left}
use Rattle.epochs.proofs.matching.begins_one.Given as goal

-- none of the epochs gone over is begun
abbrev pub invariant-loop-other : goal.invariant-loop-other
invariant-loop-other l = (later : List Epoch)
    → Match (epoch_of (part_at l.epoch) ∷ later) (map epoch_of (parts_left l.initial.others))
    ↔ Match (epoch_of (part_at l.epoch) ∷ later) (map epoch_of (parts_left l.others))

abbrev pub decreases-loop-other : goal.decreases-loop-other
decreases-loop-other l = length (parts_left l.others)
