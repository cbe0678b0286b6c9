use Rattle.std.proofs.Common.{◌≡◌, [], vec_len, sym, subst, eqb-true, arith}
use Rattle.call_records.specs.Book.{Side}
use Rattle.call_records.specs.BookView.{CallsHavePlaces}
use Rattle.call_records.proofs.Rooms.{no_places}
use Rattle.call_records.proofs.book.reserve_in_records.Goals as goal

pub returns-then-is_empty-clause-dte : goal.returns-then-is_empty-clause-dte
returns-then-is_empty-clause-dte c =
    let none : vec_len c.args.records.now ≡ 0 = eqb-true (vec_len c.args.records.now) 0 (sym c.if-is_empty.ensures) in
    no_places c.args.count _ c.args.records.now.items (omega (arith, none, c.args.records.now.ok))

pub returns-then-is_empty-clause-dce : goal.returns-then-is_empty-clause-dce
returns-then-is_empty-clause-dce c =
    let none : vec_len c.args.records.now ≡ 0 = eqb-true (vec_len c.args.records.now) 0 (sym c.if-is_empty.ensures) in
    no_places c.args.count _ c.args.records.now.items (omega (arith, none, c.args.records.now.ok))

pub returns-clause-dte : goal.returns-clause-dte
returns-clause-dte c =
    let first = c.reserve_present.new.records.items in
    let P : Side → Type 0 = λ s. CallsHavePlaces c.args.count s.slots first in
    let dte : CallsHavePlaces c.args.count c.args.ends.now.dte.slots first =
    subst P (c.of.ensures [] []) c.in_ok-reserve_present.ensures.ok in
    λ channel number e. c.in_ok-reserve_present-2.ensures.kept number (dte channel number e)

pub returns-clause-dce : goal.returns-clause-dce
returns-clause-dce c =
    let P : Side → Type 0 = λ s. CallsHavePlaces c.args.count s.slots c.reserve_present-2.new.records.items in
    subst P (c.of-2.ensures [] []) c.in_ok-reserve_present-2.ensures.ok

pub returns-in_err-reserve_present-clause-counted : goal.returns-in_err-reserve_present-clause-counted
returns-in_err-reserve_present-clause-counted c counted =
    c.reserve_present.ensures.counted (c.drop_spare.ensures.counted counted)

pub returns-in_err-reserve_present-2-clause-counted : goal.returns-in_err-reserve_present-2-clause-counted
returns-in_err-reserve_present-2-clause-counted c counted =
    c.reserve_present-2.ensures.counted (c.reserve_present.ensures.counted (c.drop_spare.ensures.counted counted))

pub returns-clause-counted : goal.returns-clause-counted
returns-clause-counted c counted =
    c.reserve_present-2.ensures.counted (c.reserve_present.ensures.counted (c.drop_spare.ensures.counted counted))
