use Rattle.std.proofs.Common.{◌≡◌, ◌↔◌, List, map, refl, sym, ap, subst, ◌∙◌}
use Rattle.std.proofs.lemmas.Bool.{OnTrue_at}
use Rattle.epochs.specs.Epoch.{Epoch}
use Rattle.epochs.specs.Match.{Match}
use Rattle.epochs.specs.Match.Match.{nothing}
use Rattle.epochs.proofs.OnePass.{match-drop}
use Rattle.epochs.specs.Passed.{Part}
use Rattle.epochs.specs.Matching.Epochs.{epoch_of, all_parts}
use Rattle.epochs.specs.Matching.EpochsLeft.{parts_left}
use Rattle.epochs.proofs.ListPrefixes.{iff-then}
use Rattle.epochs.proofs.matching.matches.Goals as goal
use Rattle.epochs.proofs.matching.matches.Goals.{else-not-is_empty-via-then-not-is_empty+else-not-begins_one, else-not-is_empty-via-else-not-is_empty}

pub loop-epoch-preserved : goal.loop-epoch-preserved
loop-epoch-preserved c =
    let later = map epoch_of (parts_left c.next.new.self) in
    let others = map epoch_of (parts_left c.loop-epoch.others) in
    let P : List Epoch → List Part → Type 0 = λ left ps. Match (map epoch_of ps) others ↔ Match later left in
    let behind : (left : List Epoch) → (Match (map epoch_of (parts_left c.loop-epoch.epoch-iterator)) others ↔ Match later left)
    → (Match (map epoch_of (parts_left c.into_iter-epoch-iterator.result)) (map epoch_of (parts_left c.new-others.result)) ↔ Match later left) =
    λ left step. iff-then c.loop-epoch.invariant.same step in
    elim c.else-not-is_empty.branch [
      | else-not-is_empty-via-then-not-is_empty+else-not-begins_one w ↦ (let left = map epoch_of (parts_left w.begins_one.new.others) in
          record {
            can = tt;
            finite = tt;
            same = rw w.others-is (behind left (subst (P left) (sym c.in-Some.ensures.steps)
                (OnTrue_at w.if-not-begins_one.false w.begins_one.ensures.found later)));
          })
      | else-not-is_empty-via-else-not-is_empty w ↦ record {
        can = tt;
        finite = tt;
        same = rw w.others-is (behind others (subst (P others) (sym c.in-Some.ensures.steps)
            (match-drop (c.is_empty.ensures.0 w.if-not-is_empty.false))));
      }
    ]

pub returns : goal.returns
returns c =
    let taken : parts_left c.into_iter-epoch-iterator.result ≡ all_parts c.args.taken.now.epochs =
    ap parts_left c.into_iter-epoch-iterator.ensures.into_iter_gives ∙ c.new-epoch-items.ensures in
    let P : List Part → List Part → Type 0 = λ ps qs. Match (map epoch_of ps) (map epoch_of qs) in
    let left : P (parts_left c.loop-epoch.epoch-iterator) (parts_left c.loop-epoch.others) =
    subst (λ ps. P ps (parts_left c.loop-epoch.others)) (sym c.in-None.ensures.steps.0) nothing in (
      λ t. subst (λ ps. P ps (all_parts c.args.sent.now.epochs)) taken
          (subst (λ qs. P (parts_left c.into_iter-epoch-iterator.result) qs) c.new-others.ensures (c.loop-epoch.invariant.same.1 left)),
      λ m. refl,
    )
