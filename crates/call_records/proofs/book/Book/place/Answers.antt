use Rattle.std.proofs.Common.{◌≡◌, ℕ, ◌∙◌, ◌++◌, ◌∷◌, [], ap, map, length, arith}
use Rattle.call_records.specs.Records.{RecordValue}
use Rattle.call_records.specs.Book.{Book, Side, address_of, places}
use Rattle.call_records.specs.Room.{BookState}
use Rattle.call_records.specs.RecordView.{shown, pair_of}
use Rattle.call_records.proofs.Growing.{counted_more}
use Rattle.call_records.proofs.NewRecords.{places_is, shown_more, shown_length}
use Rattle.call_records.proofs.book.Book.place.Goals as goal

-- without room but that for pairs
abbrev with_pairs : ℕ → Book → BookState
with_pairs pairs b = record { book = b; room = 0; pairs = pairs }

pub returns : goal.returns
returns c =
    let a = c.self.inside in
    let rs = map shown a.records.items in
    let ps = map pair_of a.pairs.items in
    let here = c.of-here.ensures rs ps in
    let new = map shown c.push_reserved.new.self.items in
    let node = c.node-node.ensures ∙ ap (λ (s : Side). s.node) here in
    let own = c.address.ensures ∙ ap (λ (s : Side). address_of s.address) here in
    let number : c.len-number.result ≡ length a.records.items = omega (arith, c.len-number.ensures, a.records.ok) in
    let more = shown_more a.records.items c.push_reserved.new.self.items c.new.result c.push_reserved.ensures.items in
    let grown = more ∙ ap (λ (r : RecordValue). rs ++ r ∷ []) c.new.ensures.shown in
    ap (with_pairs a.pair_room) (places_is a c.args.role c.args.channel c.args.called.now new c.put.new.self c.len-number.result c.node-node.result
    c.address.result c.recorded.result (number ∙ shown_length a.records.items) node own c.recorded.ensures grown (c.put.ensures new ps))
    ∙ ap (λ (s : BookState). with_pairs s.pairs (places c.args.role c.args.channel c.args.called.now s.book)) c.self.view_is

pub invariant_of-self : goal.invariant_of-self
invariant_of-self c =
    let p = c.self.invariant in
    record {
      room = omega arith;
      records = omega arith;
      pairs = omega arith;
      pair_room = p.pair_room;
      most_records = omega (arith, p.most_records, c.push_reserved.ensures.capacity);
      most_pairs = p.most_pairs;
      counted = counted_more c.self.inside.records.items c.push_reserved.new.self.items c.new.result c.push_reserved.ensures.items
          c.new.ensures.counted p.counted;
      dte = λ channel number e r at. omega arith;
      dce = λ channel number e r at. omega arith;
    }
