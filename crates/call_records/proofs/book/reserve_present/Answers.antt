use Rattle.std.proofs.Common.{◌∙◌, sym, ap, arith}
use Rattle.call_records.specs.Book.{Slot}
use Rattle.call_records.proofs.Rooms.{this_or_before, none_or_before, before_all}
use Rattle.call_records.proofs.book.reserve_present.Goals as goal
use Rattle.call_records.proofs.book.reserve_present.Goals.{in-Some+in_ok-reserve_at, in_default}

pub loop-place-preserved : goal.loop-place-preserved
loop-place-preserved c =
    let v = c.loop-place.invariant in
    let slot = ap (λ (s : Slot). s.present) (sym c.slot.ensures) ∙ ap (λ (s : Slot). s.present) (sym c.slot-in-loop-place.view_is) in
    elim c.match-slot.branch [
      | in-Some+in_ok-reserve_at w ↦
          let kept = w.in_ok-reserve_at.ensures.kept in
          rw w.records-is (record {
            same = w.reserve_at.ensures.same ∙ v.same;
            len = w.reserve_at.ensures.len ∙ v.len;
            capacity = w.reserve_at.ensures.capacity ∙ v.capacity;
            counted = λ counted. w.reserve_at.ensures.counted (v.counted counted);
            kept = λ other at. kept other (v.kept other at);
            reserved = this_or_before c.args.side.now.slots c.loop-place.place c.args.count w.in-Some.number w.reserve_at.new.records.items
                (slot ∙ w.in-Some.is) w.in_ok-reserve_at.ensures.ok (λ channel number le e. kept number (v.reserved channel number le e));
          })
      | in_default w ↦ rw w.records-is (record {
        same = v.same;
        len = v.len;
        capacity = v.capacity;
        counted = v.counted;
        kept = v.kept;
        reserved = none_or_before c.args.side.now.slots c.loop-place.place c.args.count c.loop-place.records.items (slot ∙ w.in_default.is) v.reserved;
      })
    ]

pub returns-clause-ok : goal.returns-clause-ok
returns-clause-ok c =
    before_all c.args.side.now.slots c.args.count c.loop-place.records.items
    (λ channel number le e. c.loop-place.invariant.reserved channel number (omega (arith, c.channels-place-end.ensures)) e)

pub returns-in_err-reserve_at-clause-counted : goal.returns-in_err-reserve_at-clause-counted
returns-in_err-reserve_at-clause-counted c counted =
    c.reserve_at.ensures.counted (c.loop-place.invariant.counted counted)
