use Rattle.std.proofs.Common.{◌-◌, arith}
use Rattle.call_records.proofs.Rooms.{fewer_places}
use Rattle.call_records.proofs.book.Book.answer.Goals as goal

pub invariant_of-self : goal.invariant_of-self
invariant_of-self c =
    let p = c.self.invariant in
    let less = fewer_places c.self.inside (c.self.inside.room - 1) (c.self.inside.places - 1) (omega (arith, p.room))
    (omega arith) p in
    rw (c.saturating_sub-self-inside.ensures, c.saturating_sub-self-inside-3.ensures) (record {
      room = less.room;
      records = less.records;
      pairs = less.pairs;
      pair_room = omega (arith, p.pair_room, c.saturating_sub-self-inside-2.ensures);
      most_records = less.most_records;
      most_pairs = less.most_pairs;
      counted = less.counted;
      dte = less.dte;
      dce = less.dce;
    })

pub invariant_of-self-2 : goal.invariant_of-self-2
invariant_of-self-2 c =
    let p = c.self.invariant in
    let less = fewer_places c.self.inside (c.self.inside.room - 1) (c.self.inside.places - 1) (omega (arith, p.room))
    (omega arith) p in
    rw (c.saturating_sub-self-inside.ensures, c.saturating_sub-self-inside-3.ensures) (record {
      room = less.room;
      records = less.records;
      pairs = omega (arith, p.pairs, c.push_reserved.ensures.len, c.push_reserved.ensures.capacity);
      pair_room = omega (
        arith,
        p.pair_room,
        c.saturating_sub-self-inside-2.ensures,
        c.push_reserved.ensures.len,
        c.push_reserved.ensures.capacity,
      );
      most_records = less.most_records;
      most_pairs = omega (arith, less.most_pairs, c.push_reserved.ensures.capacity);
      counted = less.counted;
      dte = less.dte;
      dce = less.dce;
    })
