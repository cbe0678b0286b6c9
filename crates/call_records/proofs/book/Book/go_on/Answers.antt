use Rattle.std.proofs.Common.{arith, rules, tests}
use Rattle.call_records.proofs.book.Book.go_on.Goals as goal

pub invariant_of-self : goal.invariant_of-self
invariant_of-self c =
    let a = c.self.inside in
    let p = c.self.invariant in
    record {
      room = p.room;
      records = omega (arith, p.records, c.go_on_at.ensures.len, c.go_on_at.ensures.capacity);
      pairs = p.pairs;
      pair_room = p.pair_room;
      most_records = omega (arith, p.most_records, c.go_on_at.ensures.capacity);
      most_pairs = p.most_pairs;
      counted = c.go_on_at.ensures.counted p.counted;
      dte = λ channel number e. c.go_on_at.ensures.room a.places number (p.dte channel number e);
      dce = λ channel number e. c.go_on_at.ensures.room a.places number (p.dce channel number e);
    }

pub returns : goal.returns
returns c = search (rules, tests)
