use Rattle.std.proofs.Common.{rules, ◌≡◌, ◌<◌, ◌≤◌, Some, length, ap, ◌∙◌, arith}
use Rattle.epochs.proofs.EpochLists.{part-next, part-last}
use Rattle.epochs.specs.Matching.EpochsLeft.{parts_from}
use Rattle.epochs.proofs.epochs_iter.EpochsIterator.next.Goals as goal
use Rattle.epochs.proofs.epochs_iter.EpochsIterator.next.Goals.{then-number-ended, else-number-ended}

pub returns-clause-steps : goal.returns-clause-steps
returns-clause-steps c =
    let number = c.in_ok-number.number in
    let e = c.args.self.now.passed.now.epochs in
    let given : c.args.self.now.given ≡ Some number = search rules in
    elim c.if-number-ended.branch [
      | then-number-ended w ↦ (let below : number < length e.before = omega arith in
          let left : parts_from c.args.self.now.given e ≡ _ = ap (λ g. parts_from g e) given ∙ part-next number e below in
          rw w.self-is left)
      | else-number-ended w ↦ (let ended : length e.before ≤ number = omega arith in
          let left : parts_from c.args.self.now.given e ≡ _ = ap (λ g. parts_from g e) given ∙ part-last number e ended in
          rw w.self-is left)
    ]
