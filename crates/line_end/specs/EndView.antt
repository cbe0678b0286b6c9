-- What contracts see of the code's end of a line, and what always holds of it.
use Rattle.std.specs.Prelude.{◌≡◌, ◌≤◌, length, is_some}
use Rattle.lapb.specs.Machine.{runs}
use Rattle.lapb.specs.declared.note.Timing.{Timing}
use Rattle.line_end.specs.declared.end.LineEnd.TheInside.{Inside}
use Rattle.line_end.specs.End.{End}
use Rattle.line_end.specs.Held.{LineEnd}

abbrev pub end_of : Inside → End
end_of a = record { link = a.link.link; t1 = a.t1; frames = a.out.frames }

abbrev pub holding : Inside → LineEnd
holding a = record { end = end_of a; held = a.link.held }

-- each packet that is not acknowledged has its buffer, T1 runs where it is to, and nothing is left to be done with it
pub record IsEnd (a : Inside) : Type 0 where
  pub k : a.link.link.k ≤ 7
  pub queue : length a.link.link.queue ≤ a.link.link.k
  pub tight : length a.link.held ≡ length a.link.link.queue
  pub t1 : is_some a.t1 ≡ runs a.link.link
  pub told : a.out.timer ≡ Timing.Keep
