use Rattle.std.proofs.Common.{List, sym, subst, arith}
use Rattle.call_records.specs.BookView.{CallsHavePlaces}
use Rattle.call_records.specs.RecordView.{AreCounted}
use Rattle.call_records.specs.declared.record.Record.{Record}
use Rattle.call_records.proofs.book.Book.reserve_anew.Goals as goal

pub invariant_of-self-2 : goal.invariant_of-self-2
invariant_of-self-2 c =
    let p = c.self.invariant in
    let made = c.in_ok-reserve_in_records.ensures in
    let places = c.saturating_add-places.result in
    let same = sym c.reserve.ensures.items in
    let D : List Record → Type 0 = λ rs. CallsHavePlaces places c.self.inside.ends.dte.slots rs in
    let C : List Record → Type 0 = λ rs. CallsHavePlaces places c.self.inside.ends.dce.slots rs in
    record {
      room = omega (arith, c.saturating_add-places.ensures, c.ranges.count);
      records = omega (arith, c.in_ok-reserve.ensures.ok);
      pairs = omega (arith, c.in_ok-reserve-2.ensures.ok);
      pair_room = omega (arith, c.in_ok-reserve-2.ensures.ok, c.saturating_add-places.ensures, c.ranges.count);
      most_records = omega (arith, p.most_records, c.reserve_in_records.ensures.capacity, c.reserve.ensures.capacity);
      most_pairs = omega (arith, p.most_pairs, c.reserve-2.ensures.capacity);
      counted = subst AreCounted same (c.reserve_in_records.ensures.counted p.counted);
      dte = subst D same made.dte;
      dce = subst C same made.dce;
    }

pub invariant_of-self : goal.invariant_of-self
invariant_of-self c =
    let p = c.self.invariant in
    record {
      room = omega arith;
      records = omega arith;
      pairs = omega arith;
      pair_room = omega arith;
      most_records = omega (arith, p.most_records, c.reserve_in_records.ensures.capacity);
      most_pairs = p.most_pairs;
      counted = c.reserve_in_records.ensures.counted p.counted;
      dte = λ channel number e r at. omega arith;
      dce = λ channel number e r at. omega arith;
    }

pub invariant_of-self-in_err-reserve : goal.invariant_of-self-in_err-reserve
invariant_of-self-in_err-reserve c =
    let p = c.self.invariant in
    record {
      room = omega arith;
      records = omega arith;
      pairs = omega arith;
      pair_room = omega arith;
      most_records = omega (arith, p.most_records, c.reserve_in_records.ensures.capacity, c.reserve.ensures.capacity);
      most_pairs = p.most_pairs;
      counted = subst AreCounted (sym c.reserve.ensures.items) (c.reserve_in_records.ensures.counted p.counted);
      dte = λ channel number e r at. omega arith;
      dce = λ channel number e r at. omega arith;
    }

pub invariant_of-self-in_err-reserve-2 : goal.invariant_of-self-in_err-reserve-2
invariant_of-self-in_err-reserve-2 c =
    let p = c.self.invariant in
    record {
      room = omega arith;
      records = omega arith;
      pairs = omega arith;
      pair_room = omega arith;
      most_records = omega (arith, p.most_records, c.reserve_in_records.ensures.capacity, c.reserve.ensures.capacity);
      most_pairs = omega (arith, p.most_pairs, c.reserve-2.ensures.capacity);
      counted = subst AreCounted (sym c.reserve.ensures.items) (c.reserve_in_records.ensures.counted p.counted);
      dte = λ channel number e r at. omega arith;
      dce = λ channel number e r at. omega arith;
    }
