use Rattle.std.proofs.Common.{◌≡◌, ◌∙◌, ◌+◌, suc, ℕ, take, refl, subst, arith}
use Rattle.call_records.specs.RecordView.{NoPlacesAt}
use Rattle.call_records.proofs.Fitting.{one_more, all_of}
use Rattle.call_records.proofs.book.drop_spare.Goals as goal

pub loop-number-preserved : goal.loop-number-preserved
loop-number-preserved c =
    let k = c.loop-number.number-index in
    let v = c.loop-number.invariant in
    let e = c.in_ok-drop_spare_at.ensures in
    let next : suc k ≡ k + 1 = omega arith in
    let P : ℕ → Type 0 = λ n. NoPlacesAt (take n c.args.numbers.now) c.drop_spare_at.new.records.items in
    record {
      same = e.same ∙ v.same;
      len = e.len ∙ v.len;
      capacity = e.capacity ∙ v.capacity;
      counted = λ counted. c.drop_spare_at.ensures.counted (v.counted counted);
      fits =
          subst P next
          (one_more c.args.numbers.now k _ _ c.drop_spare_at.new.records.items c.loop-number-test.true refl
          (e.kept (take k c.args.numbers.now) v.fits) e.fits);
    }

pub returns-clause-fits : goal.returns-clause-fits
returns-clause-fits c =
    all_of c.args.numbers.now c.loop-number.number-index c.loop-number.records.items c.loop-number-test.false
    c.loop-number.invariant.fits

pub returns-in_err-drop_spare_at-clause-counted : goal.returns-in_err-drop_spare_at-clause-counted
returns-in_err-drop_spare_at-clause-counted c counted =
    c.drop_spare_at.ensures.counted (c.loop-number.invariant.counted counted)
