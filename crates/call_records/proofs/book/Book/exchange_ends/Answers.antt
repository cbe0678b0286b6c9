use Rattle.std.proofs.Common.{List, sym, subst, arith}
use Rattle.call_records.specs.BookView.{CallsHavePlaces}
use Rattle.call_records.specs.declared.ends.Ends.{Ends}
use Rattle.call_records.specs.declared.record.Record.{Record}
use Rattle.call_records.proofs.Rooms.{fewer_calls}
use Rattle.call_records.proofs.book.Book.exchange_ends.Goals as goal

pub invariant_of-self : goal.invariant_of-self
invariant_of-self c =
    let p = c.self.invariant in
    let rs = c.self.inside.records.items in
    let known = c.known_places.result in
    let places = c.min-self-inside.result in
    let less = c.min-self-inside.ensures in
    let ends = c.args.ends.now in
    let D : List Record → Type 0 = λ l. CallsHavePlaces known ends.dte.slots l in
    let C : List Record → Type 0 = λ l. CallsHavePlaces known ends.dce.slots l in
    let dte = fewer_calls known places ends.dte.slots rs (omega (arith, less)) (subst D c.deref.ensures.value c.known_places.ensures.dte) in
    let dce = fewer_calls known places ends.dce.slots rs (omega (arith, less)) (subst C c.deref.ensures.value c.known_places.ensures.dce) in
    let DteOf : Ends → Type 0 = λ e. CallsHavePlaces places e.dte.slots rs in
    let DceOf : Ends → Type 0 = λ e. CallsHavePlaces places e.dce.slots rs in
    record {
      room = omega arith;
      records = omega (arith, p.records, less);
      pairs = omega (arith, p.pairs, less);
      pair_room = omega arith;
      most_records = p.most_records;
      most_pairs = p.most_pairs;
      counted = p.counted;
      dte = subst DteOf (sym c.swap.ensures.x_after) dte;
      dce = subst DceOf (sym c.swap.ensures.x_after) dce;
    }
