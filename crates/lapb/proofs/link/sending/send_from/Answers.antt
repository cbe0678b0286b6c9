use Rattle.std.proofs.Common.{◌+◌, ◌∷◌, [], drop, map, ap, ◌∙◌, false, arith}
use Rattle.frame_codec.specs.Frame.{I}
use Rattle.frame_codec.specs.Spelling.{spelling}
use Rattle.lapb.specs.Machine.{command, numbered}
use Rattle.lapb.specs.Out.{Out, with_frames}
use Rattle.lapb.proofs.Frames.{frames_alone, sent_one_more}
use Rattle.lapb.proofs.link.sending.send_from.Goals as goal

pub loop-place-preserved : goal.loop-place-preserved
loop-place-preserved c = record {
  number = omega (arith, c.loop-place.invariant.number);
  others = frames_alone c.args.out.now c.loop-place.out _ _ c.loop-place.invariant.others c.put.ensures;
  frames =
      ap (λ (o : Out). with_frames o.frames (map (spelling c.args.role) (numbered (c.args.window.now.oldest +
      (c.loop-place.place + 1)) c.args.nr (drop (c.loop-place.place + 1) c.args.queue.now.packets))))
      c.put.ensures
      ∙ ap (λ n. with_frames (with_frames c.loop-place.out.frames (spelling c.args.role (command (I n
      c.args.nr c.packet-information.result.now) false) ∷ []))
      (map (spelling c.args.role) (numbered (c.args.window.now.oldest + (c.loop-place.place + 1)) c.args.nr
      (drop (c.loop-place.place + 1) c.args.queue.now.packets)))) c.loop-place.invariant.number
      ∙ sent_one_more c.args.role c.args.window.now.oldest c.args.nr c.loop-place.place c.args.queue.now.packets
      c.packet-information.result.now c.loop-place.out.frames c.packet-information.ensures.value
      ∙ c.loop-place.invariant.frames;
}
