use Rattle.std.proofs.Common.{◌<◌, ℕ, map, get_or}
use Rattle.call_records.specs.Records.{PairValue}
use Rattle.call_records.specs.RecordView.{shown, pair_of}
use Rattle.call_records.specs.Pairs.{PairMatches}
use Rattle.call_records.proofs.pairs.all_match.Given as goal

-- the pairs gone over match
abbrev pub invariant-loop-pair : goal.invariant-loop-pair
invariant-loop-pair l = (k : ℕ) (d : PairValue) → k < l.pair-index → PairMatches (map shown l.records) (get_or (map pair_of l.pairs) k d)
