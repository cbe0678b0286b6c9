use Rattle.std.proofs.Common.{refl}
use Rattle.call_records.proofs.Rooms.{put_room}
use Rattle.call_records.proofs.book.Book.close.Goals as goal

pub invariant_of-self : goal.invariant_of-self
invariant_of-self c =
    let p = put_room c.self.inside c.put.new.self c.args.role c.args.channel _ (c.put.ensures _ _) refl c.self.invariant in
    record {
      room = p.room;
      records = p.records;
      pairs = p.pairs;
      pair_room = p.pair_room;
      most_records = p.most_records;
      most_pairs = p.most_pairs;
      counted = p.counted;
      dte = p.dte;
      dce = p.dce;
    }
