use Rattle.std.proofs.Common.{◌<◌, ◌≤◌, length, arith}
use Rattle.call_records.proofs.Growing.{found_at, none_at, shown_same, counted_set}
use Rattle.call_records.proofs.Fitting.{fitting_set, fitting_here, single}
use Rattle.call_records.proofs.book.drop_spare_at.Goals as goal

pub returns-in_err-drop_spare-clause-same : goal.returns-in_err-drop_spare-clause-same
returns-in_err-drop_spare-clause-same c =
    let rs = c.args.records.now.items in
    let within : c.args.number < length rs = omega (arith, c.args.records.now.ok) in
    let there = found_at rs c.args.number c.index_mut-record.result.now within c.index_mut-record.ensures.value in
    shown_same rs c.args.number c.index_mut-record.result.now c.drop_spare.new.self there c.drop_spare.ensures.same

pub returns-in_ok-drop_spare-clause-same : goal.returns-in_ok-drop_spare-clause-same
returns-in_ok-drop_spare-clause-same c =
    let rs = c.args.records.now.items in
    let within : c.args.number < length rs = omega (arith, c.args.records.now.ok) in
    let there = found_at rs c.args.number c.index_mut-record.result.now within c.index_mut-record.ensures.value in
    shown_same rs c.args.number c.index_mut-record.result.now c.drop_spare.new.self there c.drop_spare.ensures.same

pub returns-in_ok-drop_spare-clause-kept : goal.returns-in_ok-drop_spare-clause-kept
returns-in_ok-drop_spare-clause-kept c numbers fit =
    fitting_set numbers c.args.number c.args.records.now.items c.drop_spare.new.self c.in_ok-drop_spare.ensures.fits fit

pub returns-in_ok-drop_spare-clause-fits : goal.returns-in_ok-drop_spare-clause-fits
returns-in_ok-drop_spare-clause-fits c =
    fitting_here c.args.number c.args.records.now.items c.drop_spare.new.self c.in_ok-drop_spare.ensures.fits

pub returns-else-number-len-clause-fits : goal.returns-else-number-len-clause-fits
returns-else-number-len-clause-fits c i number r is there =
    let rs = c.args.records.now.items in
    let beyond : length rs ≤ c.args.number = omega (arith, c.args.records.now.ok) in
    let same = single c.args.number number i is in
    absurd (none_at rs c.args.number r beyond (rw (← same) there))

pub returns-in_err-drop_spare-clause-counted : goal.returns-in_err-drop_spare-clause-counted
returns-in_err-drop_spare-clause-counted c counted =
    counted_set c.args.number c.args.records.now.items c.drop_spare.new.self c.drop_spare.ensures.counted counted

pub returns-in_ok-drop_spare-clause-counted : goal.returns-in_ok-drop_spare-clause-counted
returns-in_ok-drop_spare-clause-counted c counted =
    counted_set c.args.number c.args.records.now.items c.drop_spare.new.self c.drop_spare.ensures.counted counted
