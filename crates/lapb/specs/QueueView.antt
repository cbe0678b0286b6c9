-- What contracts see of the code's queue, and what always holds of it.
use Rattle.std.specs.Prelude.{◌+◌, ◌<◌, drop}
use Rattle.lapb.specs.declared.queue.Queue.TheInside.{Inside}
use Rattle.lapb.specs.Held.{Queue, contents, around, most_places, AreTaken}

abbrev pub queue_of : Inside → Queue
queue_of a = record {
  packets = drop a.spent (contents (around a.places a.first (a.spent + a.len)));
  held = around a.places a.first (a.spent + a.len);
}

pub record IsQueue (a : Inside) : Type 0 where
  pub taken : AreTaken a.places a.first (a.spent + a.len)
  pub first : a.first < most_places
  pub most : a.spent + a.len < most_places
