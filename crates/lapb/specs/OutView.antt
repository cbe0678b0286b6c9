-- What contracts see of what a link's calls give, and what always holds of it.
use Rattle.std.specs.Prelude.{◌≤◌, take, drop}
use Rattle.lapb.specs.declared.out.LinkOut.TheInside.{Inside}
use Rattle.lapb.specs.Out.{Out, most_frames}

abbrev pub out_of : Inside → Out
out_of a = record {
  frames = drop a.taken (take a.end a.places);
  note = a.note;
  accepted = a.accepted;
  timer = a.timer;
}

pub record IsOut (a : Inside) : Type 0 where
  pub taken : a.taken ≤ a.end
  pub end : a.end ≤ most_frames
