use Rattle.std.proofs.Common.{◌≡◌, ◌∙◌, ◌<◌, ℕ, List, true, false, length, take, drop, sym, ap, arith, length-drop}
use Rattle.data_transfer.specs.Cutting.{cut}
use Rattle.data_transfer.proofs.Pieces.{some_full, one_full, cut_more, full_of}
use Rattle.data_transfer.specs.Packets.{Datum}
use Rattle.epochs.specs.Packets.{data_packet_of}
use Rattle.call_records.specs.Book.{Book, sends}
use Rattle.call_records.specs.Room.{BookState}
use Rattle.user_nodes.specs.Turn.{all_sent}
use Rattle.user_nodes.proofs.Sending.{places_left}
use Rattle.user_nodes.proofs.writing.write_packets.Goals as goal

pub loop-preserved : goal.loop-preserved
loop-preserved c =
    let size = c.args.size in
    let rest = c.loop.rest.now in
    let others = c.split_at.result.1.now in
    let left = c.loop.invariant.left in
    let whole : Datum = record (data_packet_of c.args.packet) { octets = rest } in
    let long : size < length rest = some_full size rest c.requires.size (omega (arith, left, c.loop-test.true)) in
    let front : c.split_at.result.0.now ≡ take size rest = c.split_at.ensures.front ∙ ap (λ (n : ℕ). take n rest) c.from.ensures in
    let back : others ≡ drop size rest = c.split_at.ensures.back ∙ ap (λ (n : ℕ). drop n rest) c.from.ensures in
    let sent : c.send.new.self.book ≡ sends c.args.role c.args.channel (full_of size whole) c.loop.book.book =
    ap (λ (s : BookState). s.book) c.send.ensures
    ∙ ap (λ (octets : List ℕ). sends c.args.role c.args.channel (record { octets = octets; more = true; qualified = c.args.packet.qualified; delivery = false }) c.loop.book.book) front in
    record {
      left = rw back (omega (arith, one_full size rest c.requires.size long, left, c.loop-test.true));
      most = rw back (omega (arith, length-drop size rest, c.loop.invariant.most));
      room = rw (c.send.ensures, front, back) (places_left size rest c.loop.book.room c.requires.size long c.loop.invariant.room);
      written =
          ap (λ (b : Book). all_sent c.args.role c.args.channel (cut size (record whole { octets = others })) b) sent
          ∙ ap (λ (octets : List ℕ). all_sent c.args.role c.args.channel (cut size (record whole { octets = octets }))
          (sends c.args.role c.args.channel (full_of size whole) c.loop.book.book)) back
          ∙ sym (ap (λ (ds : List Datum). all_sent c.args.role c.args.channel ds c.loop.book.book) (cut_more size whole c.requires.size long))
          ∙ c.loop.invariant.written;
    }
