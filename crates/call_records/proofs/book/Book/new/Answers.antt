use Rattle.std.proofs.Common.{List, ap, map, arith}
use Rattle.call_records.specs.Book.{Book}
use Rattle.call_records.specs.RecordView.{shown, pair_of}
use Rattle.call_records.specs.declared.ends.Ends.{Ends}
use Rattle.call_records.specs.declared.record.Record.{Record}
use Rattle.call_records.specs.declared.record.Pair.{Pair}
use Rattle.call_records.proofs.Growing.{counted_more, none_counted}
use Rattle.call_records.proofs.NewRecords.{standing_is, free_is, two_shown, one_pair}
use Rattle.call_records.proofs.book.Book.new.Goals as goal
use Rattle.call_records.proofs.book.Book.new.Goals.{then-standing, else-standing}

pub returns : goal.returns
returns c =
    let first : Ends = record { dte = c.in_ok-new.field-0; dce = c.in_ok-new-2.field-0 } in
    elim c.if-standing.branch [
      | then-standing w ↦
          let two = w.push_reserved-then-standing.new.self.items in
          let one = w.push_reserved-then-standing-2.new.self.items in
          rw (w.ends-is, w.records-is, w.pairs-is, w.if-standing.true) (ap (λ (b : Book). record { book = b; room = 0; pairs = 0 })
          (standing_is c.args.dte_node c.args.dce_node c.args.channels first w.put.new.self w.put-then-standing.new.self (map shown two) (map pair_of one)
          c.in_ok-new.ensures c.in_ok-new-2.ensures (w.put.ensures (map shown two) (map pair_of one)) (w.put-then-standing.ensures (map shown two) (map pair_of one))
          (two_shown c.in_ok-records.records.items w.push_reserved.new.self.items two w.new-caller.result w.new-callee.result _ _
          c.in_ok-records.ensures.items w.push_reserved.ensures.items w.push_reserved-then-standing.ensures.items w.new-caller.ensures.shown w.new-callee.ensures.shown)
          (one_pair c.in_ok-pairs.pairs.items one (record { caller = 0; callee = 1 }) c.in_ok-pairs.ensures.items w.push_reserved-then-standing-2.ensures.items)))
      | else-standing w ↦
          rw (w.ends-is, w.records-is, w.pairs-is, w.if-standing.false) (ap (λ (b : Book). record { book = b; room = 0; pairs = 0 })
          (free_is c.args.dte_node c.args.dce_node c.args.channels first (map shown c.in_ok-records.records.items) (map pair_of c.in_ok-pairs.pairs.items)
          c.in_ok-new.ensures c.in_ok-new-2.ensures (ap (λ (l : List Record). map shown l) c.in_ok-records.ensures.items) (ap (λ (l : List Pair). map pair_of l) c.in_ok-pairs.ensures.items)))
    ]

pub invariant_of-result : goal.invariant_of-result
invariant_of-result c =
    let none = none_counted c.in_ok-records.records.items c.in_ok-records.ensures.items in
    elim c.if-standing.branch [
      | then-standing w ↦
          let one = w.push_reserved.new.self.items in
          let counted = counted_more c.in_ok-records.records.items one w.new-caller.result w.push_reserved.ensures.items w.new-caller.ensures.counted none in
          rw (w.ends-is, w.records-is, w.pairs-is) (record {
            room = omega arith;
            records = omega arith;
            pairs = omega arith;
            pair_room = omega arith;
            most_records = omega (arith, c.in_ok-records.ensures.capacity, w.push_reserved.ensures.capacity, w.push_reserved-then-standing.ensures.capacity);
            most_pairs = omega (arith, c.in_ok-pairs.ensures.capacity, w.push_reserved-then-standing-2.ensures.capacity);
            counted = counted_more one _ w.new-callee.result w.push_reserved-then-standing.ensures.items w.new-callee.ensures.counted counted;
            dte = λ channel number e r at. omega arith;
            dce = λ channel number e r at. omega arith;
          })
      | else-standing w ↦ rw (w.ends-is, w.records-is, w.pairs-is) (record {
        room = omega arith;
        records = omega arith;
        pairs = omega arith;
        pair_room = omega arith;
        most_records = omega (arith, c.in_ok-records.ensures.capacity);
        most_pairs = omega (arith, c.in_ok-pairs.ensures.capacity);
        counted = none;
        dte = λ channel number e r at. omega arith;
        dce = λ channel number e r at. omega arith;
      })
    ]
