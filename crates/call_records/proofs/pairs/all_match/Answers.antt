use Rattle.std.proofs.Common.{rules, ◌<◌, map, length}
use Rattle.std.proofs.lemmas.Bool.{iff_false}
use Rattle.call_records.specs.RecordView.{shown, pair_of}
use Rattle.call_records.specs.Pairs.{PairMatches}
use Rattle.call_records.proofs.Elements.{holds-at, holds-next}
use Rattle.call_records.proofs.pairs.all_match.Goals as goal

pub loop-pair-preserved : goal.loop-pair-preserved
loop-pair-preserved c =
    let pairs = c.args.pairs.now in
    let within : c.loop-pair.pair-index < length pairs = search rules in
    holds-next (PairMatches (map shown c.args.records.now)) pair_of pairs c.loop-pair.pair-index _ within
    (c.pair_matches.ensures.0 c.if-not-pair_matches.false) c.loop-pair.invariant

pub returns-then-not-pair_matches : goal.returns-then-not-pair_matches
returns-then-not-pair_matches c =
    let pairs = c.args.pairs.now in
    let within : c.loop-pair.pair-index < length pairs = search rules in (
      λ t. cc,
      λ all. absurd (iff_false c.pair_matches.ensures c.if-not-pair_matches.true
          (holds-at (PairMatches (map shown c.args.records.now)) pair_of pairs c.loop-pair.pair-index _ within all)),
    )
