use Rattle.std.proofs.Common.{◌≡◌, ◌+◌, ◌%◌, map, drop}
use Rattle.frame_codec.specs.Spelling.{spelling}
use Rattle.lapb.specs.Machine.{numbered}
use Rattle.lapb.specs.Out.{with_frames}
use Rattle.lapb.proofs.link.sending.send_from.Given as goal

abbrev pub invariant-loop-place : goal.invariant-loop-place
invariant-loop-place l = record {
  number : l.ns ≡ (l.fn.window.oldest + l.place) % 8;
  others : l.out ≡ record l.fn.out { frames = l.out.frames };
  frames : with_frames l.out.frames (map (spelling l.role) (numbered (l.fn.window.oldest + l.place) l.nr (drop
      l.place l.queue.packets)))
      ≡ with_frames l.fn.out.frames (map (spelling l.role) (numbered (l.fn.window.oldest + l.fn.window.next) l.nr
      (drop l.fn.window.next l.queue.packets)));
}
