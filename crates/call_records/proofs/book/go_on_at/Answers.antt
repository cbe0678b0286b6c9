use Rattle.std.proofs.Common.{◌<◌, ◌≤◌, length, sym, arith}
use Rattle.call_records.specs.Records.{with_hop}
use Rattle.call_records.specs.RecordView.{hop_of}
use Rattle.call_records.proofs.Growing.{found_at, changed_some, changed_none, places_kept, counted_set}
use Rattle.call_records.proofs.book.go_on_at.Goals as goal

pub returns-then-number-len-clause-shown : goal.returns-then-number-len-clause-shown
returns-then-number-len-clause-shown c =
    let rs = c.args.records.now.items in
    let within : c.args.number < length rs = omega (arith, c.args.records.now.ok) in
    let there = found_at rs c.args.number c.index_mut-record.result.now within c.index_mut-record.ensures.value in
    changed_some rs c.args.number c.index_mut-record.result.now c.go_on.new.self (with_hop (hop_of c.args.hop)) there c.go_on.ensures.shown

pub returns-then-number-len-clause-room : goal.returns-then-number-len-clause-room
returns-then-number-len-clause-room c room other at =
    let rs = c.args.records.now.items in
    let within : c.args.number < length rs = omega (arith, c.args.records.now.ok) in
    let there = found_at rs c.args.number c.index_mut-record.result.now within c.index_mut-record.ensures.value in
    places_kept room other c.args.number rs c.index_mut-record.result.now c.go_on.new.self there c.go_on.ensures.places at

pub returns-else-number-len-clause-shown : goal.returns-else-number-len-clause-shown
returns-else-number-len-clause-shown c =
    let rs = c.args.records.now.items in
    let beyond : length rs ≤ c.args.number = omega (arith, c.args.records.now.ok) in
    sym (changed_none rs c.args.number (with_hop (hop_of c.args.hop)) beyond)

pub returns-then-number-len-clause-counted : goal.returns-then-number-len-clause-counted
returns-then-number-len-clause-counted c counted =
    let rs = c.args.records.now.items in
    let within : c.args.number < length rs = omega (arith, c.args.records.now.ok) in
    let there = found_at rs c.args.number c.index_mut-record.result.now within c.index_mut-record.ensures.value in
    counted_set c.args.number rs c.go_on.new.self (c.go_on.ensures.counted (counted c.args.number _ there)) counted
