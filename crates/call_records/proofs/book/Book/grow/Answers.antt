use Rattle.std.proofs.Common.{◌≤◌, sym, ap, subst, ◌∙◌, arith}
use Rattle.call_records.specs.Book.{Slot}
use Rattle.call_records.specs.Room.{BookState}
use Rattle.call_records.specs.RecordView.{needed, left}
use Rattle.call_records.proofs.Growing.{left_less, left_in_order, fewer_at}
use Rattle.call_records.proofs.Rooms.{fewer_places, present_has}
use Rattle.call_records.proofs.book.Book.grow.Goals as goal

pub invariant_of-self : goal.invariant_of-self
invariant_of-self c =
    let a = c.self.inside in
    let p = c.self.invariant in
    rw (c.left-self-inside.ensures, c.left-self-inside-2.ensures)
    (fewer_places a (left c.args.growth a.room) (left c.args.growth a.places)
    (left_in_order c.args.growth a.room a.places p.room) (left_less c.args.growth a.places) p)

pub grow_at-requires : goal.grow_at-requires
grow_at-requires c =
    let a = c.self.inside in
    let P : BookState → Type 0 = λ s. needed c.args.growth ≤ s.room in
    let p = c.self.invariant in
    let here = present_has a c.args.role c.args.channel c.in-Some.number c.of.result.now c.slot.result
    (c.of.ensures _ _) c.slot.ensures (ap (λ (s : Slot). s.present) (sym c.present.view_is) ∙ c.in-Some.is) p in
    let room = subst P (sym c.self.view_is) c.requires.room in
    record {
      places = fewer_at a.places (needed c.args.growth) c.in-Some.number a.records.items (omega (arith, room, p.room)) here;
      counted = p.counted;
      fits = c.requires.fits;
    }

pub invariant_of-self-2 : goal.invariant_of-self-2
invariant_of-self-2 c =
    let a = c.self.inside in
    let less = left_less c.args.growth a.places in
    let p = c.self.invariant in
    let here = present_has a c.args.role c.args.channel c.in-Some.number c.of.result.now c.slot.result
    (c.of.ensures _ _) c.slot.ensures (ap (λ (s : Slot). s.present) (sym c.present.view_is) ∙ c.in-Some.is) p in
    rw (c.left-self-inside.ensures, c.left-self-inside-2.ensures) (record {
      room = left_in_order c.args.growth a.room a.places p.room;
      records = omega (arith, less, p.records, c.grow_at.ensures.len, c.grow_at.ensures.capacity);
      pairs = omega (arith, less, p.pairs);
      pair_room = p.pair_room;
      most_records = omega (arith, p.most_records, c.grow_at.ensures.capacity);
      most_pairs = p.most_pairs;
      counted = c.grow_at.ensures.counted;
      dte = λ channel number e. c.grow_at.ensures.room a.places number here (p.dte channel number e);
      dce = λ channel number e. c.grow_at.ensures.room a.places number here (p.dce channel number e);
    })
