use Rattle.std.proofs.Common.{◌<◌, ◌≤◌, length, arith}
use Rattle.call_records.proofs.Growing.{found_at, none_at, shown_same, places_set, places_here, counted_set}
use Rattle.call_records.proofs.book.reserve_at.Goals as goal

pub returns-in_err-reserve-clause-same : goal.returns-in_err-reserve-clause-same
returns-in_err-reserve-clause-same c =
    let rs = c.args.records.now.items in
    let within : c.args.number < length rs = omega (arith, c.args.records.now.ok) in
    let there = found_at rs c.args.number c.index_mut-record.result.now within c.index_mut-record.ensures.value in
    shown_same rs c.args.number c.index_mut-record.result.now c.reserve.new.self there c.reserve.ensures.same

pub returns-in_ok-reserve-clause-same : goal.returns-in_ok-reserve-clause-same
returns-in_ok-reserve-clause-same c =
    let rs = c.args.records.now.items in
    let within : c.args.number < length rs = omega (arith, c.args.records.now.ok) in
    let there = found_at rs c.args.number c.index_mut-record.result.now within c.index_mut-record.ensures.value in
    shown_same rs c.args.number c.index_mut-record.result.now c.reserve.new.self there c.reserve.ensures.same

pub returns-in_ok-reserve-clause-kept : goal.returns-in_ok-reserve-clause-kept
returns-in_ok-reserve-clause-kept c other at =
    places_set c.args.count other c.args.number c.args.records.now.items c.reserve.new.self c.in_ok-reserve.ensures.ok at

pub returns-in_ok-reserve-clause-ok : goal.returns-in_ok-reserve-clause-ok
returns-in_ok-reserve-clause-ok c =
    places_here c.args.count c.args.number c.args.records.now.items c.reserve.new.self c.in_ok-reserve.ensures.ok

pub returns-else-number-len-clause-ok : goal.returns-else-number-len-clause-ok
returns-else-number-len-clause-ok c r e =
    let rs = c.args.records.now.items in
    let beyond : length rs ≤ c.args.number = omega (arith, c.args.records.now.ok) in
    absurd (none_at rs c.args.number r beyond e)

pub returns-in_err-reserve-clause-counted : goal.returns-in_err-reserve-clause-counted
returns-in_err-reserve-clause-counted c counted =
    let rs = c.args.records.now.items in
    let within : c.args.number < length rs = omega (arith, c.args.records.now.ok) in
    let there = found_at rs c.args.number c.index_mut-record.result.now within c.index_mut-record.ensures.value in
    counted_set c.args.number rs c.reserve.new.self (c.reserve.ensures.counted (counted c.args.number _ there)) counted

pub returns-in_ok-reserve-clause-counted : goal.returns-in_ok-reserve-clause-counted
returns-in_ok-reserve-clause-counted c counted =
    let rs = c.args.records.now.items in
    let within : c.args.number < length rs = omega (arith, c.args.records.now.ok) in
    let there = found_at rs c.args.number c.index_mut-record.result.now within c.index_mut-record.ensures.value in
    counted_set c.args.number rs c.reserve.new.self (c.reserve.ensures.counted (counted c.args.number _ there)) counted
