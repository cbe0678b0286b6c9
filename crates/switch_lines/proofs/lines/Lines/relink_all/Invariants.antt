-- What is left of them makes the same lines and adds the same ones to the list as all of them did at the beginning, and
-- no notes are left.
use Rattle.std.proofs.Common.{◌≡◌, ◌-◌, ◌+◌, ◌≤◌, ◌++◌, length}
use Rattle.arrayvec.specs.ArrayVec.{array_vec_len}
use Rattle.switch_lines.specs.ByPlace.{AreRead}
use Rattle.switch_lines.specs.Switch.{all_relinked, relinks_of, to_relink}
use Rattle.switch_lines.proofs.lines.Lines.relink_all.Given as goal

abbrev pub invariant-loop : goal.invariant-loop
invariant-loop l = record {
  end : l.end ≡ length l.fn.self;
  most : l.end ≤ 64;
  left : all_relinked (l.end - l.counter) l.routes l.self ≡ all_relinked l.end l.routes l.fn.self;
  read : AreRead l.self;
  room : array_vec_len l.concerned ≡ 1 + l.counter;
  list : l.concerned.items ++ relinks_of (l.end - l.counter) (to_relink l.self) l.routes l.self
      ≡ l.fn.concerned.items ++ relinks_of l.end (to_relink l.fn.self) l.routes l.fn.self;
}
