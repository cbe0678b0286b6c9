use Rattle.std.proofs.Common.{◌≡◌, ℕ, ◌∙◌, ◌++◌, ◌∷◌, [], Some, ap, map, length, arith}
use Rattle.link_timers.specs.declared.role.Role.{Role}
use Rattle.packet_codec.specs.Packet.{CallValue}
use Rattle.data_transfer.specs.Octets.{parts_of}
use Rattle.call_records.specs.Records.{RecordValue}
use Rattle.call_records.specs.Book.{Book, Side, Slot, nth_slot, side_of, address_of, comes}
use Rattle.call_records.specs.Room.{BookState}
use Rattle.call_records.specs.RecordView.{shown, pair_of}
use Rattle.call_records.specs.BookView.{book_of}
use Rattle.call_records.proofs.Growing.{counted_more}
use Rattle.call_records.proofs.NewRecords.{comes_is, some_address, shown_more, shown_length}
use Rattle.call_records.proofs.book.Book.receive_call.Goals as goal

-- without room but that for pairs
abbrev with_pairs : ℕ → Book → BookState
with_pairs pairs b = record { book = b; room = 0; pairs = pairs }

pub returns : goal.returns
returns c =
    let a = c.self.inside in
    let rs = map shown a.records.items in
    let ps = map pair_of a.pairs.items in
    let here = c.of-here.ensures rs ps in
    let there = c.of.ensures rs ps in
    let new = map shown c.push_reserved.new.self.items in
    let parts = parts_of c.args.call.now in
    let node = c.node-node.ensures ∙ ap (λ (s : Side). s.node) here in
    let own = ap (λ (v : CallValue). Some v.called) c.data-data.ensures.says ∙ some_address parts.called c.data-data.ensures.fits.called.0 in
    let far = c.calling_of.ensures ∙ ap (λ (v : CallValue). address_of v.calling) c.data-data.ensures.says in
    let placed = ap (λ (s : Slot). s.placed) (c.placed.view_is ∙ c.slot.ensures) ∙ ap (λ (s : Side). (nth_slot s.slots c.args.channel).placed) here in
    let caller = ap (λ (s : Slot). s.placed) (c.caller.view_is ∙ c.slot-2.ensures) ∙ ap (λ (s : Side). (nth_slot s.slots c.args.channel).placed) there in
    let other = ap (λ (r : Role). (nth_slot (side_of r (book_of a)).slots c.args.channel).placed) c.other.ensures in
    let number : c.len-number.result ≡ length a.records.items = omega (arith, c.len-number.ensures, a.records.ok) in
    let more = shown_more a.records.items c.push_reserved.new.self.items c.new.result c.push_reserved.ensures.items in
    let grown = more ∙ ap (λ (r : RecordValue). rs ++ r ∷ []) c.new.ensures.shown in
    ap (with_pairs a.pair_room) (comes_is a c.args.role c.args.channel parts new c.put.new.self c.len-number.result c.node-node.result
    (Some c.data-data.result.called) c.calling_of.result c.placed.inside.placed c.caller.inside.placed
    (number ∙ shown_length a.records.items) node own far placed (caller ∙ other) grown (c.put.ensures new ps))
    ∙ ap (λ (s : BookState). with_pairs s.pairs (comes c.args.role c.args.channel parts s.book)) c.self.view_is

pub invariant_of-self : goal.invariant_of-self
invariant_of-self c =
    let p = c.self.invariant in
    record {
      room = omega arith;
      records = omega arith;
      pairs = omega arith;
      pair_room = p.pair_room;
      most_records = omega (arith, p.most_records, c.push_reserved.ensures.capacity);
      most_pairs = p.most_pairs;
      counted = counted_more c.self.inside.records.items c.push_reserved.new.self.items c.new.result c.push_reserved.ensures.items
          c.new.ensures.counted p.counted;
      dte = λ channel number e r at. omega arith;
      dce = λ channel number e r at. omega arith;
    }
