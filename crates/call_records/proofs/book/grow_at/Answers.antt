use Rattle.std.proofs.Common.{◌<◌, ◌≤◌, length, sym, arith}
use Rattle.call_records.specs.RecordView.{grown, left}
use Rattle.call_records.proofs.Growing.{found_at, changed_some, changed_none, fewer_at, left_less, grown_places, counted_set}
use Rattle.call_records.proofs.book.grow_at.Goals as goal

pub grow-requires-clause-places : goal.grow-requires-clause-places
grow-requires-clause-places c =
    let rs = c.args.records.now.items in
    let within : c.args.number < length rs = omega (arith, c.args.records.now.ok) in
    c.requires.places c.index_mut-record.result.now
    (found_at rs c.args.number c.index_mut-record.result.now within c.index_mut-record.ensures.value)

pub grow-requires-clause-counted : goal.grow-requires-clause-counted
grow-requires-clause-counted c =
    let rs = c.args.records.now.items in
    let within : c.args.number < length rs = omega (arith, c.args.records.now.ok) in
    c.requires.counted c.args.number c.index_mut-record.result.now
    (found_at rs c.args.number c.index_mut-record.result.now within c.index_mut-record.ensures.value)

pub returns-then-number-len-clause-shown : goal.returns-then-number-len-clause-shown
returns-then-number-len-clause-shown c =
    let rs = c.args.records.now.items in
    let within : c.args.number < length rs = omega (arith, c.args.records.now.ok) in
    let there = found_at rs c.args.number c.index_mut-record.result.now within c.index_mut-record.ensures.value in
    changed_some rs c.args.number c.index_mut-record.result.now c.grow.new.self (grown c.args.growth) there c.grow.ensures.shown

pub returns-then-number-len-clause-room : goal.returns-then-number-len-clause-room
returns-then-number-len-clause-room c room other here at =
    let rs = c.args.records.now.items in
    let within : c.args.number < length rs = omega (arith, c.args.records.now.ok) in
    let there = found_at rs c.args.number c.index_mut-record.result.now within c.index_mut-record.ensures.value in
    grown_places c.args.growth room other c.args.number rs c.index_mut-record.result.now c.grow.new.self there c.grow.ensures.places here at

pub returns-then-number-len-clause-counted : goal.returns-then-number-len-clause-counted
returns-then-number-len-clause-counted c =
    counted_set c.args.number c.args.records.now.items c.grow.new.self c.grow.ensures.counted c.requires.counted

pub returns-else-number-len-clause-shown : goal.returns-else-number-len-clause-shown
returns-else-number-len-clause-shown c =
    let rs = c.args.records.now.items in
    let beyond : length rs ≤ c.args.number = omega (arith, c.args.records.now.ok) in
    sym (changed_none rs c.args.number (grown c.args.growth) beyond)

pub returns-else-number-len-clause-room : goal.returns-else-number-len-clause-room
returns-else-number-len-clause-room c room other here at =
    fewer_at room (left c.args.growth room) other c.args.records.now.items (left_less c.args.growth room) at
