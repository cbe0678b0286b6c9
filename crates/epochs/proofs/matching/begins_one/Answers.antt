use Rattle.std.proofs.Common.{◌↔◌, List, ◌∷◌, map, sym, subst, rules, tests}
use Rattle.std.proofs.lemmas.Bool.{iff_false}
use Rattle.epochs.specs.Match.{Match}
use Rattle.epochs.proofs.OnePass.{match-join, match-skip}
use Rattle.epochs.specs.Passed.{Part}
use Rattle.epochs.specs.Matching.Epochs.{epoch_of}
use Rattle.epochs.specs.Matching.EpochsLeft.{part_at, parts_left}
use Rattle.epochs.proofs.ListPrefixes.{iff-then}
use Rattle.epochs.proofs.matching.begins_one.Goals as goal

pub returns-then-begins-clause-found : goal.returns-then-begins-clause-found
returns-then-begins-clause-found c = λ later.
    let e = epoch_of (part_at c.args.epoch) in
    let rest = map epoch_of (parts_left c.next.new.self) in
    let P : List Part → Type 0 = λ ps. Match (e ∷ later) (map epoch_of ps) ↔ Match later rest in
    iff-then (c.loop-other.invariant later)
    (subst P (sym c.in-Some.ensures.steps) (match-join c.requires (c.begins.ensures.0 c.if-begins.true)))

pub loop-other-preserved : goal.loop-other-preserved
loop-other-preserved c = λ later.
    let e = epoch_of (part_at c.args.epoch) in
    let rest = map epoch_of (parts_left c.next.new.self) in
    let P : List Part → Type 0 = λ ps. Match (e ∷ later) (map epoch_of ps) ↔ Match (e ∷ later) rest in
    iff-then (c.loop-other.invariant later)
    (subst P (sym c.in-Some.ensures.steps) (match-skip c.requires (iff_false c.begins.ensures c.if-begins.false)))

pub returns-clause-found : goal.returns-clause-found
returns-clause-found c = search (rules, tests)
